-- What was read of the words.
use Rattle.std.specs.Prelude.{⊤}
use Rattle.wse_uri.specs.FileUrl.{IsPlainFileUrl}
use Rattle.wse_words.specs.Words.{Asked, Init, Run, Show, Options, options}
use Rattle.wse_words.specs.declared.words.Words.{Words}
use Rattle.wse_words.specs.declared.words.Words.TheVariants as words
use Rattle.wse_words.specs.declared.options.Options.{Options as ReadOptions}

-- What the words ask for.
abbrev pub asked_of : Words → Asked
asked_of (words.Init places) = Init places.tree.now places.store.now
asked_of (words.Run places root o) = Run places.tree.now places.store.now root o.adopt o.max_input
asked_of (words.Show places) = Show places.tree.now places.store.now

-- The root of a run has no host, query and fragment.
abbrev pub HasPlainRoot : Words → Type 0
HasPlainRoot (words.Init places) = ⊤
HasPlainRoot (words.Run places root o) = IsPlainFileUrl root
HasPlainRoot (words.Show places) = ⊤

-- The options as they are read.
abbrev pub options_of : ReadOptions → Options
options_of o = options o.adopt o.max_input
