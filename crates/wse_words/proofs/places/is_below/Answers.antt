use Rattle.std.proofs.Common.{sym, ◌∙◌}
use Rattle.wse_words.proofs.PlaceLemmas.{below_by, not_below, not_below_by}
use Rattle.wse_words.proofs.places.is_below.Goals as goal

pub returns-then-word-folder : goal.returns-then-word-folder
returns-then-word-folder c = sym (not_below c.args.folder.now c.args.word.now c.if-word-folder.true)

pub returns-then-word-folder-ne47 : goal.returns-then-word-folder-ne47
returns-then-word-folder-ne47 c = sym (not_below_by c.args.folder.now c.args.word.now c.if-word-folder.false c.if-word-folder-ne47.true)

pub returns : goal.returns
returns c = c.starts_with.ensures.value ∙ sym (below_by c.args.folder.now c.args.word.now c.if-word-folder.false c.if-word-folder-ne47.false)
