use Rattle.std.proofs.Common.{◌++◌, ◌∷◌, [], sym, ap, subst, ◌∙◌, append_assoc, arith}
use Rattle.wse_disk.specs.Calls.{ReadsNames}
use Rattle.wse_disk.specs.Standing.{Standing}
use Rattle.std.specs.Prelude.{Option}
use Rattle.wse_recover.specs.Load.{LoadsFile}
use Rattle.wse_recover.proofs.LoadLemmas.{next_loaded}
use Rattle.wse_recover.proofs.load.load_tree.Goals as goal

pub loop-path-preserved : goal.loop-path-preserved
loop-path-preserved g c =
    let inv = c.loop-path.invariant in
    let step = c.in-Some.ensures.steps.0 in
    let before = c.loop-path.yielded in
    let path = c.in-Some.path in
    let rest = c.next.new.self.rest.items in
    let told = g.D.Disk.told c.names.new.self in
    let all = ap (λ l. before ++ l) step in
    record {
      same = c.in_ok-load_file.ensures.same ∙ inv.same;
      later = omega (arith, inv.later, c.in_ok-load_file.ensures.later);
      faults = c.in_ok-load_file.ensures.cause.kept ∙ inv.faults;
      paths = subst (ReadsNames told) (all ∙ sym (append_assoc before (path ∷ []) rest)) inv.paths;
      loaded = next_loaded told before path rest c.loop-path.tree.files c.load_file.new.tree.files (g.met.D.Disk.reads_an_image c.names.new.self)
          (subst (ReadsNames told) all inv.paths) inv.loaded
          (subst (λ (t : Option Standing). LoadsFile t path c.loop-path.tree.files c.load_file.new.tree.files) inv.same c.in_ok-load_file.ensures.loaded);
    }
