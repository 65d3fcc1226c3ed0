-- `seek` meets its contract. The first whose identity is not below the one sought is where it stands, or would.
use Rattle.std.proofs.Common.{◌∙◌, ap, sym}
use Rattle.targets.proofs.Arrays.{stops-none, stops-held, stops-free}
use Rattle.targets.proofs.seek.Goals as goal

pub returns-in-Some-clause-value : goal.returns-in-Some-clause-value
returns-in-Some-clause-value g c =
    let a = c.args in
    let same = sym c.if-identity.true ∙ c.identity.ensures ∙ ap g.T.Named.name c.index-among-p.is in
    stops-held g.T.Named.name a.identity a.among.now c.in-Some.p c.index-among-p.result (sym c.first_from.ensures ∙ c.in-Some.is) same

pub returns-in-Some-2-clause-value : goal.returns-in-Some-2-clause-value
returns-in-Some-2-clause-value g c =
    let a = c.args in
    stops-free g.T.Named.name a.identity a.among.now c.in-Some.p c.index-among-p.result (sym c.first_from.ensures ∙ c.in-Some.is)
    (λ e. c.if-identity.false (c.identity.ensures ∙ ap g.T.Named.name c.index-among-p.is ∙ sym e))

pub returns-in-None-clause-value : goal.returns-in-None-clause-value
returns-in-None-clause-value g c = stops-none g.T.Named.name c.args.identity c.args.among.now (sym c.first_from.ensures ∙ c.in-None.is)
