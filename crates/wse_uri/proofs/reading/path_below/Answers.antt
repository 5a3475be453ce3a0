use Rattle.std.proofs.Common.{◌≡◌, ◌⊎◌, IfOk, IfErr, Ok, Err, refl, sym, subst, inr}
use Rattle.wse_uri.specs.declared.refused.UriRefused.TheVariants.{Memory}
use Rattle.wse_uri.proofs.ReadingLemmas.{starts_with-items, path_below-left}
use Rattle.wse_uri.proofs.reading.path_below.Goals as goal

pub returns-in-Some-clause-ok : goal.returns-in-Some-clause-ok
returns-in-Some-clause-ok c =
    let h = c.in-Some.ensures.cases in
    subst (λ answer. IfOk c.path_from.result (λ path. answer ≡ Ok path)) (sym (path_below-left c.args.segments.now c.args.root.now c.in-Some.left.now h.0 h.1)) c.path_from.ensures.ok

pub returns-in-Some-clause-refused : goal.returns-in-Some-clause-refused
returns-in-Some-clause-refused c =
    let h = c.in-Some.ensures.cases in
    subst (λ answer. IfErr c.path_from.result (λ why. (why ≡ Memory) ⊎ (answer ≡ Err why))) (sym (path_below-left c.args.segments.now c.args.root.now c.in-Some.left.now h.0 h.1)) c.path_from.ensures.refused

pub returns-in-None-clause-refused : goal.returns-in-None-clause-refused
returns-in-None-clause-refused c = inr (rw (starts_with-items c.args.segments.now c.args.root.now, c.in-None.ensures.cases) refl)
