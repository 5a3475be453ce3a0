use Rattle.std.proofs.Common.{◌∙◌}
use Rattle.std.proofs.lemmas.List.Elements.{All-contains}
use Rattle.wse_text.specs.Index.{IsMark}
use Rattle.wse_text.proofs.MarkLemmas.{place_from_mark}
use Rattle.wse_text.proofs.index.along_marked_line.Goals as goal

pub along_line-requires : goal.along_line-requires
along_line-requires c = (All-contains (IsMark c.args.text.now c.args.enc) c.args.marks.now c.in-Some.mark c.requires.marks c.in-Some.ensures.among).boundary

pub returns-in-Some-clause-value : goal.returns-in-Some-clause-value
returns-in-Some-clause-value c =
    let is = All-contains (IsMark c.args.text.now c.args.enc) c.args.marks.now c.in-Some.mark c.requires.marks c.in-Some.ensures.among in
    c.along_line.ensures.value ∙ place_from_mark c.args.text.now c.args.enc c.in-Some.mark c.args.start c.args.character is c.in-Some.ensures.line c.in-Some.ensures.in_front
