use Rattle.std.proofs.Common.{◌∙◌, ap, lit<, refl}
use Rattle.std.proofs.lemmas.Str.Pattern.{strip_suffix_char}
use Rattle.wse_uri.proofs.WritingLemmas.{strip_last-suffix}
use Rattle.wse_uri.proofs.writing.without_final_slash.Goals as goal

pub returns : goal.returns
returns c =
    ap (λ t. t.now) c.unwrap_or.ensures ∙ strip_last-suffix c.args.text.now c.strip_suffix.result c.args.text refl (strip_suffix_char 47 _ _ c.strip_suffix.ensures.cases (lit< tt))
