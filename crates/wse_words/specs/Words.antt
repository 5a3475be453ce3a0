-- The words of the command line. All of this is this project's own rule.
use Rattle.std.specs.Prelude.{ℕ, Bool, true, false, not, ◌&&◌, ◌||◌, ◌==◌, nat_le, codes, List, [], ◌∷◌, ◌++◌, map, String, string_bytes, nat_eq, Option, Some, None, option_map, if◌then◌else◌}
use Rattle.std.specs.List.{list_all, starts_with}
use Rattle.std.specs.Result.{result_ok}
use Rattle.std.specs.Str.{bytes_eq}
use Rattle.std.specs.Str.Parse.{digits_value}
use Rattle.url.specs.Parts.{Parts}
use Rattle.wse_uri.specs.FileUrl.{file_url}

-- The words as texts.
abbrev pub texts_of : {A : Type 0} → List (String A) → List (List ℕ)
texts_of words = map (λ w. string_bytes w) words

-- The word without the slashes at its end.
abbrev pub without_slashes : List ℕ → List ℕ
without_slashes [] = []
without_slashes (b ∷ bs) = if list_all (λ c. c == 47) (b ∷ bs) then [] else b ∷ without_slashes bs

-- A word that may name a folder: it isn't empty and doesn't begin with `-`.
abbrev pub is_place : List ℕ → Bool
is_place [] = false
is_place (b ∷ bs) = not (b == 45)

-- STORE, without final slashes, is neither TREE without final slashes nor begins with that and `/`.
abbrev pub lies_outside : List ℕ → List ℕ → Bool
lies_outside tree store =
    not (bytes_eq (without_slashes store) (without_slashes tree) || starts_with nat_eq (without_slashes store) (without_slashes tree ++ 47 ∷ []))

-- TREE and STORE as all lists of words take them.
abbrev pub are_places : List ℕ → List ℕ → Bool
are_places tree store = is_place tree && is_place store && lies_outside tree store

-- An ASCII digit.
abbrev pub is_digit : ℕ → Bool
is_digit b = nat_le 48 b && nat_le b 57

-- ASCII digits without a leading zero, but `0` itself.
abbrev pub is_number : List ℕ → Bool
is_number [] = false
is_number (b ∷ []) = is_digit b
is_number (b ∷ c ∷ more) = list_all is_digit (b ∷ c ∷ more) && not (b == 48)

-- The number that the word writes, if it lies between these.
abbrev pub number_within : (least most : ℕ) → List ℕ → Option ℕ
number_within least most word =
    if is_number word && (nat_le least (digits_value 10 word) && nat_le (digits_value 10 word) most) then Some (digits_value 10 word) else None

-- The most bytes of input: 2^62 at most, and 4,294,967,296 where no word says it.
abbrev pub input_limit : List ℕ → Option ℕ
input_limit word = number_within 1 4611686018427387904 word

abbrev pub standard_input : ℕ
standard_input = 4294967296

-- What is asked for. TREE and STORE are as they are spelled.
pub data Asked : Type 0 where
  Init : (tree store : List ℕ) → Asked
  Run : (tree store : List ℕ) (root : Parts) (adopt : Bool) (max_input : ℕ) → Asked
  Show : (tree store : List ℕ) → Asked

-- What comes behind ROOT: whether differing paths are adopted, and the most bytes of input.
pub record Options : Type 0 where
  pub adopt : Bool
  pub max_input : ℕ

abbrev pub options : Bool → ℕ → Options
options adopt max_input = record { adopt = adopt; max_input = max_input }

abbrev pub is_adopt : List ℕ → Bool
is_adopt word = bytes_eq word (codes "--adopt")

abbrev pub is_max_input : List ℕ → Bool
is_max_input word = bytes_eq word (codes "--max-input")

-- `--adopt` and `--max-input N`, each at most once, in either order.
abbrev pub options_in : List (List ℕ) → Option Options
options_in [] = Some (options false standard_input)
options_in (a ∷ []) = if is_adopt a then Some (options true standard_input) else None
options_in (a ∷ b ∷ []) = if is_max_input a then option_map (options false) (input_limit b) else None
options_in (a ∷ b ∷ c ∷ []) =
    if is_adopt a && is_max_input b then option_map (options true) (input_limit c)
    else (if is_max_input a && is_adopt c then option_map (options true) (input_limit b) else None)
options_in (a ∷ b ∷ c ∷ d ∷ more) = None

-- ROOT: a file URL without host, query and fragment.
abbrev pub root_of : List ℕ → Option Parts
root_of text = result_ok (file_url text)

-- A run, where ROOT and what comes behind it are understood.
abbrev pub run_with : (tree store : List ℕ) → Option Parts → Option Options → Option Asked
run_with tree store (Some root) (Some o) = Some (Run tree store root o.adopt o.max_input)
run_with tree store (Some root) None = None
run_with tree store None o = None

-- What comes behind `run`.
abbrev pub run_in : List (List ℕ) → Option Asked
run_in (tree ∷ store ∷ root ∷ more) = if are_places tree store then run_with tree store (root_of root) (options_in more) else None
run_in words = None

-- TREE and STORE, and nothing else.
abbrev pub places_in : (List ℕ → List ℕ → Asked) → List (List ℕ) → Option Asked
places_in asked (tree ∷ store ∷ []) = if are_places tree store then Some (asked tree store) else None
places_in asked words = None

-- The lists of words that are understood, and what each asks for.
abbrev pub asked_by : List (List ℕ) → Option Asked
asked_by [] = None
asked_by (command ∷ words) =
    if bytes_eq command (codes "init") then places_in Init words
    else (if bytes_eq command (codes "run") then run_in words
    else (if bytes_eq command (codes "show") then places_in Show words
    else None))
