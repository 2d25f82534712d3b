use Rattle.std.proofs.Common.{not, refl, ap, ◌∙◌, subst, inl, inr, MatchOption}
use Rattle.map.proofs.Map.strike_code.Goals as goal
use Rattle.map.specs.Maps.{state_of}
use Rattle.tables.specs.Finds.{LeafOf, Lacks}
use Rattle.tables.specs.Stands.{State}
use Rattle.tables.proofs.StrikeCalls.{is_done, keeps_absent, keeps_last, keeps_struck, keeps_never}

pub returns-in_default-clause-keeps : goal.returns-in_default-clause-keeps
returns-in_default-clause-keeps g c = keeps_absent g.K.Tally.joined g.K.Tally.neutral c.args.code _
    (subst (λ o. MatchOption o (Lacks g.K.Tally.joined g.K.Tally.neutral (state_of c.args.self.now) c.args.code) (λ f. LeafOf (state_of c.args.self.now) c.args.code f.0 f.1)) c.in_default.is-1 c.find.ensures.value)

pub returns-then-is_none-clause-keeps : goal.returns-then-is_none-clause-keeps
returns-then-is_none-clause-keeps g c =
    keeps_last g.K.Tally.joined g.K.Tally.neutral c.args.code _ c.in-Some-Some.leaf c.in-Some-Some.r c.in-Some-Some.ensures.value
    (ap not (c.is_none.ensures ∙ ap not c.if-is_none.true)) _ (ap (λ (s : State g.row.K.Denot). s.live) c.strike_last.ensures.run) _ c.strike_last.ensures.run

pub returns-in-Done-clause-keeps : goal.returns-in-Done-clause-keeps
returns-in-Done-clause-keeps g c =
    keeps_struck g.K.Tally.joined g.K.Tally.neutral c.args.code _ c.in-Some-Some.leaf c.in-Some-Some.r c.in-Some-Some.ensures.value
    (ap not (c.is_none.ensures ∙ ap not c.if-is_none.false)) c.in-Some-Some.root c.in-Some-Some.is-0 c.strike.new.records c.in-Done.i c.in-Done.places c.in-Done.ensures.table c.in-Done.ensures.ends
    _ (ap (λ (s : State g.row.K.Denot). s.live) c.finish_strike.ensures.run) _ c.finish_strike.ensures.run

pub returns-in-On : goal.returns-in-On
returns-in-On g c = record {
  keeps =
      keeps_never g.K.Tally.joined g.K.Tally.neutral c.args.code _ c.in-Some-Some.leaf c.in-Some-Some.r c.in-Some-Some.ensures.value
      (ap not (c.is_none.ensures ∙ ap not c.if-is_none.false)) c.in-Some-Some.root c.in-Some-Some.is-0 c.strike.result c.strike.ensures.ends (elim c.in-On.is [ inl p ↦ ap is_done p.1 | inr q ↦ ap is_done q ]) _ _;
  lends = (refl, refl);
}
