use Rattle.std.proofs.Common.{◌≡◌, ◌≢◌, ◌⊎◌, ◌≤◌, ℕ, List, [], length, false}
use Rattle.wse_path.specs.Causes.{Rose}
use Rattle.wse_io.specs.Lines.{lines}
use Rattle.wse_io.specs.Reader.{AsksInNeed}
use Rattle.wse_io.specs.declared.lines.Ahead.TheVariants.{Open, Failed}
use Rattle.wse_io.specs.declared.lines.LineFault.TheVariants.{Read}
use Rattle.wse_io.proofs.Reading.{SoFar, Kept, turns}
use Rattle.wse_io.proofs.lines.Lines.next.Given as goal

abbrev pub invariant-loop-end : goal.invariant-loop-end
invariant-loop-end g l = record {
  so_far : (read : List ℕ) × (gone : List ℕ) × (l.dropped ≡ length gone) × SoFar (g.S.Source.left l.initial.source) (g.S.Source.left l.source) l.initial.self l.self read gone;
  ready : lines l.initial.self.held false ≢ [] → l.source ≡ l.initial.source;
  settled : l.initial.self.ahead ≢ Open → l.source ≡ l.initial.source;
  waits : (l.source ≡ l.initial.source) ⊎ AsksInNeed (g.S.Source.left l.initial.source) (g.S.Source.left_before l.source) l.initial.self;
  later : g.S.Source.faults l.initial.source ≤ g.S.Source.faults l.source;
  kept : Kept l.self.ahead l.self.held (g.S.Source.faults l.initial.source) (g.S.Source.faults l.source);
  cause : l.self.ahead ≡ Failed Read → (l.initial.self.ahead ≡ Failed Read) ⊎ Rose (g.S.Source.faults l.initial.source) (g.S.Source.faults l.source);
}

abbrev pub decreases-loop-end : goal.decreases-loop-end
decreases-loop-end g l = turns l.self.ahead l.self.max_input l.self.taken
