use Rattle.std.proofs.Common.{[], sym, ap, ◌∙◌}
use Rattle.wse_path.specs.PathMap.{put_each}
use Rattle.wse_path.specs.Versions.{Numbers}
use Rattle.wse_show.specs.Files.{with_versions}
use Rattle.wse_show.proofs.ShowLemmas.{put_each-append}
use Rattle.wse_show.proofs.files.numbered.Goals as goal

pub returns : goal.returns
returns c =
    let versions = c.args.versions.now.entries in
    let files = with_versions versions c.args.tree.now.files in
    c.in_ok-put_files.ensures
    ∙ ap (λ (es : Numbers). put_each files es) (c.in_ok-put_versions.ensures ∙ ap (λ (es : Numbers). put_each versions es) c.new-rows.ensures)
    ∙ sym (put_each-append versions files [])
