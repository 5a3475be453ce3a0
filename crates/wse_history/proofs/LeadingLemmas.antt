-- Contents that are set, and the changes that they make.
use Rattle.std.proofs.Common.{◌≡◌, true, List, Option, Some, None, MatchOption}
use Rattle.std.specs.Prelude.{flat_map}
use Rattle.std.specs.FinMap.{find, is_sorted}
use Rattle.std.specs.Option.{unwrap_or}
use Rattle.wse_path.specs.Path.{Path}
use Rattle.wse_path.specs.Order.{path_cmp}
use Rattle.wse_path.specs.Tree.{Entries, content, set_files}
use Rattle.wse_path.specs.Changes.{change_to, changes_between}
use Rattle.wse_path.proofs.ContentLemmas.{content_set_files}
use Rattle.wse_path.proofs.GatheredLemmas.{changes_given}
use Rattle.wse_element.specs.Content.{Content}

by_found : (o : Option Content) (new old : Content) → new ≡ unwrap_or o old → MatchOption o (new ≡ old) (λ a. new ≡ a)
by_found None new old e = e
by_found (Some a) new old e = e

-- the changes of contents in path order lead to the files with these
pub changes_set : (files : Entries) (cs : List (Path × Content)) → is_sorted path_cmp files ≡ true → is_sorted path_cmp cs ≡ true → flat_map (change_to files) cs ≡ changes_between files (set_files cs files)
changes_set files cs s t =
    changes_given files (set_files cs files) cs s t
    (λ q. by_found (find path_cmp q cs) (content (set_files cs files) q) (content files q) (content_set_files cs files q t))
