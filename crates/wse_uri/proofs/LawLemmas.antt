-- That a URI names the path for which it was written.
use Rattle.std.proofs.Common.{◌≡◌, ℕ, ◌-◌, ◌<◌, ◌==◌, nat_lt, Bool, true, false, if◌then◌else◌, List, [], ◌∷◌, ◌++◌, length, map, take, All, IsUtf8, position, Option, Some, None, Ok, refl, sym, ap, ◌∙◌, subst, arith, append-nil, get_or, is_some, inl, inr, ◌⊎◌, ⊎_elim}
use Rattle.std.specs.Cmp.Lexicographic.{lists_equiv, nat_list_eq_equiv}
use Rattle.std.specs.Io.BufRead.{ends_with_byte, strip_last}
use Rattle.std.specs.Option.{MatchOption}
use Rattle.std.proofs.lemmas.Bool.{both_ways, lt-ltb, ne_eqb}
use Rattle.std.proofs.lemmas.Bool.Decides.{nat_tests}
use Rattle.std.proofs.lemmas.List.{drop_at, length-map, map-append, take_at}
use Rattle.std.proofs.lemmas.List.Elements.{All-head, All-map, All-tail, All-weaker}
use Rattle.std.proofs.lemmas.Option.{none-some}
use Rattle.std.proofs.lemmas.List.Splits.{slice_split_none}
use Rattle.percent_encoding.specs.AsciiSet.{should_percent_encode}
use Rattle.percent_encoding.specs.Percent.{percent_decode}
use Rattle.percent_encoding.proofs.PercentLemmas.{All-percent_encode, IsEscapeByte, percent_encode_nonempty, round_trip}
use Rattle.url.specs.Host.{IsHostOf}
use Rattle.url.specs.Parts.{Parts, IsValid, cannot_be_a_base, kind_of}
use Rattle.url.specs.Scheme.{is_special, scheme_type}
use Rattle.wse_path.specs.Path.{Path, IsPath, is_bad, refusal_within}
use Rattle.wse_path.specs.declared.path.PathRefused.TheVariants.{Empty, TooDeep}
use Rattle.wse_path.proofs.PathLemmas.{none_passes}
use Rattle.wse_uri.specs.declared.writing.TheConstants.{ESCAPED}
use Rattle.wse_uri.specs.FileUrl.{IsPlainFileUrl, plain_file_url, file_url_if}
use Rattle.wse_uri.specs.Segments.{parts_of, without_empty_last, segments_of}
use Rattle.wse_uri.specs.Reading.{path_from, path_below, path_in, path_of}
use Rattle.wse_uri.specs.Writing.{escaped, escaped_path, uri_of, ReadsBack}
use Rattle.wse_uri.proofs.ReadingLemmas.{first_escape-none}
use Rattle.wse_uri.proofs.SplitLemmas.{EndsFull, EndsFull-append, EndsFull-each, EndsFull-slice_split, slice_split-append, without_empty_last-empty, without_empty_last-full}
use Rattle.wse_uri.proofs.Utf8Lemmas.{bytes_from_text}
use Rattle.wse_uri.proofs.WritingLemmas.{ends_at, last_byte, percent_encode-ESCAPED}

-- ---- an escaped segment

decoded : (s : List ℕ) → IsUtf8 s → percent_decode (escaped s) ≡ s
decoded s text = ap percent_decode (sym (percent_encode-ESCAPED s)) ∙ round_trip ESCAPED s refl (bytes_from_text s text)

all_decoded : (path : Path) → All IsUtf8 path → map percent_decode (map escaped path) ≡ path
all_decoded [] text = refl
all_decoded (s ∷ path) text = λ i. decoded s (All-head IsUtf8 s path text) i ∷ all_decoded path (All-tail IsUtf8 s path text) i

slash_escaped : should_percent_encode ESCAPED 47 ≡ true
unfolding should_percent_encode
slash_escaped = refl

abbrev NoSlash : ℕ → Type 0
NoSlash b = (b == 47) ≡ false

kept_no_slash : (b : ℕ) → should_percent_encode ESCAPED b ≡ false → NoSlash b
kept_no_slash b kept = ne_eqb b 47 (λ e. both_ways _ kept (ap (should_percent_encode ESCAPED) e ∙ slash_escaped))

escape_no_slash : (b : ℕ) → IsEscapeByte b → NoSlash b
escape_no_slash b h = ne_eqb b 47 (λ e. grind arith)

no_slash : (s : List ℕ) → All NoSlash (escaped s)
no_slash s = subst (All NoSlash) (percent_encode-ESCAPED s) (All-percent_encode NoSlash ESCAPED s kept_no_slash escape_no_slash)

nonempty : (s : List ℕ) → 0 < length s → 0 < length (escaped s)
nonempty s h = subst (λ t. 0 < length t) (percent_encode-ESCAPED s) (percent_encode_nonempty ESCAPED s h)

-- ---- the parts of what is written

-- the slashes between the segments cut them
parts_of-escaped_path : (front : List ℕ) (path : Path) → parts_of (front ++ escaped_path path) ≡ parts_of front ++ map escaped path
parts_of-escaped_path front [] = ap parts_of (append-nil front) ∙ sym (append-nil (parts_of front))
parts_of-escaped_path front (s ∷ path) =
    slice_split-append (λ b. b == 47) front 47 (escaped s ++ escaped_path path) refl
    ∙ ap (λ t. parts_of front ++ t) (parts_of-escaped_path (escaped s) path ∙ ap (λ t. t ++ map escaped path) (slice_split_none (λ b. b == 47) (escaped s) (no_slash s)))

-- the root's parts, with a final slash or without
parts_of-root : (path : List ℕ) → 0 < length path → without_empty_last (parts_of path) ≡ parts_of (strip_last 47 path)
parts_of-root path some =
    let front = take (length path - 1) path in
    elim (ends_with_byte 47 path) as (λ b. ends_with_byte 47 path ≡ b → without_empty_last (parts_of path) ≡ parts_of (if b then front else path)) [
      | true ↦ λ e.
          ap (λ t. without_empty_last (parts_of t)) (ends_at path e)
          ∙ ap without_empty_last (slice_split-append (λ b. b == 47) front 47 [] refl)
          ∙ without_empty_last-empty (parts_of front)
      | false ↦ λ e.
          let last : (get_or path (length path - 1) 0 == 47) ≡ false = rw (lt-ltb 0 (length path) some) at e in
          without_empty_last-full (parts_of path) (subst (λ t. EndsFull (parts_of t)) (sym (last_byte path some)) (EndsFull-slice_split (λ b. b == 47) front (get_or path (length path - 1) 0) last))
    ] refl

-- ---- the path

-- a path has a segment, and no segment is empty
path_some : (path : Path) → IsPath path → 0 < length path
path_some [] h = absurd (none-some _ (sym h))
path_some (s ∷ path) h = omega arith

none_within : (path : Path) (bad : Option ℕ) → refusal_within path bad ≡ None → bad ≡ None
none_within path (Some index) h = absurd (none-some _ (sym h))
none_within path None h = refl

unless_none : {X : Type 0} (b : Bool) (x : X) (o : Option X) → (if b then Some x else o) ≡ None → o ≡ None
unless_none true x o h = absurd (none-some x (sym h))
unless_none false x o h = h

none_bad : (path : Path) → IsPath path → position is_bad path ≡ None
none_bad path h = none_within path (position is_bad path) (unless_none (nat_lt 64 (length path)) (TooDeep (length path)) _ (unless_none (length path == 0) Empty _ h))

full_unless_bad : (s : List ℕ) → is_bad s ≡ false → 0 < length s
full_unless_bad s h = grind (arith, nat_tests)

each_full : (path : Path) → IsPath path → All (λ s. 0 < length s) path
each_full path h = All-weaker (λ s. is_bad s ≡ false) (λ s. 0 < length s) full_unless_bad path (none_passes is_bad path (none_bad path h))

path_from-path : (path : Path) → IsPath path → All IsUtf8 path → path_from path ≡ Ok path
path_from-path path h text =
    rw (h, first_escape-none path text, ne_eqb (length path) 0 (λ e. omega (arith, e, path_some path h))) refl

path_below-append : (root path : Path) → IsPath path → All IsUtf8 path → path_below root (root ++ path) ≡ Ok path
path_below-append root path h text =
    rw (take_at root path (length root) refl, (lists_equiv nat_list_eq_equiv).refl root, drop_at root path (length root) refl) (path_from-path path h text)

-- ---- the URL

plain_file_url-plain : (url : Parts) → IsPlainFileUrl url → plain_file_url url ≡ Ok url
plain_file_url-plain url h = rw (h.file, h.no_host, h.no_query, h.no_fragment) refl

some_or : {X : Type 0} {P : Type 0} (Q : X → Type 0) (o : Option X) → MatchOption o P Q → (is_some o ≡ true) ⊎ P
some_or Q None h = inr h
some_or Q (Some x) h = inl refl

-- the path of a file URL isn't empty
root_path_some : (root : Parts) → IsValid root → IsPlainFileUrl root → 0 < length root.path
unfolding scheme_type
root_path_some root valid plain =
    let special : is_special (kind_of root) ≡ true = ap (λ scheme. is_special (scheme_type scheme)) plain.file in
    let opaque : cannot_be_a_base root ≡ true → ⊥ = λ h. ⊎_elim (λ some. both_ways _ (rw some refl) h) (λ none. both_ways _ none special) (some_or (IsHostOf (kind_of root)) root.host valid.head.host) in
    ⊎_elim (λ segments. segments.1 special) (λ other. absurd (opaque other.0)) valid.path

pub uri_names_its_path : (root : Parts) (path : Path) → IsValid root → IsPlainFileUrl root → IsPath path → All IsUtf8 path → ReadsBack root path → path_of root (uri_of root path) ≡ Ok path
uri_names_its_path root path valid plain fits text back =
    let front = strip_last 47 root.path in
    let named = ap (path_in root) (ap file_url_if back.reads ∙ plain_file_url-plain back.url back.plain) in
    let above : segments_of root.path ≡ map percent_decode (parts_of front) = ap (map percent_decode) (parts_of-root root.path (root_path_some root valid plain)) in
    let cut : parts_of back.url.path ≡ parts_of front ++ map escaped path = ap parts_of back.keeps ∙ parts_of-escaped_path front path in
    let full : EndsFull (parts_of front ++ map escaped path) = EndsFull-append (parts_of front) (map escaped path) (EndsFull-each (map escaped path) (rw (length-map path escaped) (path_some path fits)) (All-map (λ s. 0 < length s) escaped path (All-weaker (λ s. 0 < length s) (λ s. 0 < length (escaped s)) nonempty path (each_full path fits)))) in
    let segments : segments_of back.url.path ≡ map percent_decode (parts_of front) ++ path =
    ap (map percent_decode) (ap without_empty_last cut ∙ without_empty_last-full _ full)
    ∙ map-append percent_decode (parts_of front) (map escaped path)
    ∙ ap (λ t. map percent_decode (parts_of front) ++ t) (all_decoded path text) in
    named
    ∙ ap (λ t. path_below t (segments_of back.url.path)) above
    ∙ ap (path_below (map percent_decode (parts_of front))) segments
    ∙ path_below-append (map percent_decode (parts_of front)) path fits text
