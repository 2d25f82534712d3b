pub mod BandTests
