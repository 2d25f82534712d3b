pub mod DiscTests
