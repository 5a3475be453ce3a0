use Rattle.std.proofs.Common.{rules, ◌≡◌, sym, subst}
use Rattle.std.specs.List.{All}
use Rattle.std.proofs.lemmas.List.Elements.{All-from_recursion, recursion_from_All}
use Rattle.wse_path.specs.Versions.{bumped}
use Rattle.wse_path.proofs.VersionLemmas.{IsSome, some_bumped}
use Rattle.wse_path.proofs.versions.Versions.bump.Goals as goal

pub invariant_of-self-inside : goal.invariant_of-self-inside
invariant_of-self-inside c =
    let old = c.args.self.now.entries in
    let is : c.put_reserved.new.self.entries ≡ bumped old c.args.path c.args.by = search rules in
    let some = some_bumped old c.args.path c.args.by c.requires.some (recursion_from_All IsSome old c.args.self.now.some) in
    (subst (All IsSome) (sym is) (All-from_recursion IsSome (bumped old c.args.path c.args.by) some), tt)
