use Rattle.std.proofs.Common.{All, ap, sym, subst, refl, ◌∙◌, ◌≡◌, ◌<◌, ◌≤◌, ℕ, List, Some, None, length, get_or, slice_get}
use Rattle.std.proofs.lemmas.Option.{slice_get_past, slice_get_read}
use Rattle.wse_text.specs.Index.{Indexed, IsMark}
use Rattle.wse_text.specs.Place.{line_starts, place_from}
use Rattle.wse_text.proofs.LineLemmas.{line_start_boundary}
use Rattle.wse_text.proofs.index.LineIndex.offset.Goals as goal

line_found : (text starts : List ℕ) (line start : ℕ) → starts ≡ line_starts text → line < length starts → start ≡ get_or starts line start → Some start ≡ slice_get (line_starts text) line
line_found text starts line start same low is = sym (slice_get_read starts _ line start refl low is) ∙ ap (λ starts. slice_get starts line) same

no_line : (text starts : List ℕ) (line : ℕ) → starts ≡ line_starts text → length starts ≤ line → None ≡ slice_get (line_starts text) line
no_line text starts line same past = sym (slice_get_past starts line past) ∙ ap (λ starts. slice_get starts line) same

pub along_marked_line-requires-clause-boundary : goal.along_marked_line-requires-clause-boundary
along_marked_line-requires-clause-boundary c =
    let text = c.args.text.now in
    let line = c.args.pos.line in
    let lookup = c.in-Some.ensures.lookup in
    let same = c.deref.ensures.value ∙ ap (λ (v : Indexed). v.starts) c.self.view_is ∙ c.requires.starts in
    line_start_boundary text line (Some c.in-Some.start.now) c.utf8.text (line_found text c.deref.result.now line c.in-Some.start.now same lookup.3.0 lookup.1)

pub along_marked_line-requires-clause-marks : goal.along_marked_line-requires-clause-marks
along_marked_line-requires-clause-marks c =
    subst (All (IsMark c.args.text.now c.args.enc)) (sym (c.deref-in-Some.ensures.value ∙ ap (λ (v : Indexed). v.marks) c.self.view_is)) c.requires.marks

pub returns-in-Some-clause-value : goal.returns-in-Some-clause-value
returns-in-Some-clause-value c =
    let text = c.args.text.now in
    let lookup = c.in-Some.ensures.lookup in
    let same = c.deref.ensures.value ∙ ap (λ (v : Indexed). v.starts) c.self.view_is ∙ c.requires.starts in
    c.along_marked_line.ensures.value
    ∙ ap (λ start. place_from text c.args.enc start c.args.pos.character) (line_found text c.deref.result.now c.args.pos.line c.in-Some.start.now same lookup.3.0 lookup.1)

pub returns-in-None-clause-value : goal.returns-in-None-clause-value
returns-in-None-clause-value c =
    let text = c.args.text.now in
    let same = c.deref.ensures.value ∙ ap (λ (v : Indexed). v.starts) c.self.view_is ∙ c.requires.starts in
    ap (λ start. place_from text c.args.enc start c.args.pos.character) (no_line text c.deref.result.now c.args.pos.line same c.in-None.ensures.lookup.3)
