-- A word that is an option is refused, or asks for help or the version: a parse of it fails, wherever it stands before
-- a `--`.
--
-- The program's commands have positional arguments and the two requests alone (`AreRequests`), which take no value. So
-- whatever an option word names, the walk over the words has a fault at it: an unknown option, or the request
-- (`turn_fails`). Flags after one hyphen are read one by one, and the first of them fails (`flags_fail`). A fault of a
-- later word is a fault of the parse, whether the words before it pass or not (`fails_after`).
--
-- Theorems: `seen` (a word is `--`, plain, or an option), `turn_fails` and `fails_after`.
use Rattle.std.proofs.Common.{◌≡◌, ◌∙◌, ◌⊎◌, ◌++◌, ◌&&◌, ℕ, Bool, true, false, not, refl, sym, ap, inl, inr, List, []}
use Rattle.std.proofs.Common.{◌∷◌, Option, Some, None, is_some, find, fold, length, arith}
use Rattle.std.specs.Prelude.{◌==◌, ⊤, slice_get, IsUtf8}
use Rattle.std.specs.Str.{chars}
use Rattle.std.proofs.lemmas.Bool.Decides.{eqb_tells}
use Rattle.std.proofs.Math.Utf8.{encodes}
use Rattle.std.proofs.lemmas.Str.{IsUtf8-past_char, encode_ascii, encodes-chars}
use Rattle.clap.specs.Lexer.{long_of, short_of}
use Rattle.clap.specs.Walk.{Held, Names, Row as Found, Rule, Text, Waiting, Walk, arg_by_long, arg_by_short, idle}
use Rattle.clap.specs.Walk.{is_empty, option, positional, subcommand_met, takes_values, walked}
use Rattle.clap.specs.Simple.{Shape}
use Rattle.clap.specs.Faults.{flags_fault, long_fault, other_fault, react_fault, short_fault, turn_fault, use_fault}
use Rattle.clap.specs.Faults.{walk_fault}
use Rattle.clap.specs.Kinds.{Kinds, or_else}
use Rattle.keep_args.specs.Wanted.{is_dashes, is_option}

-- ---- the first that fails

pub first_fails : (a b : Kinds) → is_empty a ≡ false → is_empty (or_else a b) ≡ false
first_fails [] b h = absurd cc
first_fails (k ∷ ks) b h = h

pub second_fails : (a b : Kinds) → is_empty b ≡ false → is_empty (or_else a b) ≡ false
second_fails [] b h = h
second_fails (k ∷ ks) b h =
    elim (eqb_tells (length (k ∷ ks)) 0) [ inl same ↦ absurd (omega (arith, same.1)) | inr other ↦ other.0 ]

-- ---- what a word is

-- the word is no `--` and no option
pub record IsPlainWord (word : Text) : Type 0 where
  pub long : long_of word ≡ None
  pub short : short_of word ≡ None
  pub dashes : is_dashes word ≡ false

abbrev IsLong : Text → Type 0
IsLong word = (p : Text × Option Text) × (long_of word ≡ Some p)

-- flags, of which this is the first
abbrev IsShort : Text → Type 0
IsShort word =
    (long_of word ≡ None) × (flags : Text) × (x : ℕ) × (short_of word ≡ Some flags)
    × (slice_get (chars flags) 0 ≡ Some x)

pub record IsOptionWord (word : Text) : Type 0 where
  pub dashes : is_dashes word ≡ false
  pub is : is_option word ≡ true
  pub how : IsLong word ⊎ IsShort word

same_number : (n m : ℕ) → (n == m) ≡ true → n ≡ m
same_number n m e =
    elim (eqb_tells n m) [ inl same ↦ same.1 | inr other ↦ let bad : true ≡ false = sym e ∙ other.0 in absurd cc ]

-- flags are what follows a hyphen, and something
flags_of : (word flags : Text) → short_of word ≡ Some flags → (word ≡ 45 ∷ flags) × (flags ≡ [] → ⊥)
flags_of [] flags h = absurd cc
flags_of (c ∷ []) flags h = by (c == 45) refl
  where
    by : (b : Bool) → (c == 45) ≡ b → (c ∷ [] ≡ 45 ∷ flags) × (flags ≡ [] → ⊥)
    by true e = let no : None ≡ Some flags = rw e at h in absurd cc
    by false e = let no : None ≡ Some flags = rw e at h in absurd cc
flags_of (c ∷ x ∷ xs) flags h = by (c == 45) (x == 45) refl refl
  where
    by : (b d : Bool) → (c == 45) ≡ b → (x == 45) ≡ d → (c ∷ x ∷ xs ≡ 45 ∷ flags) × (flags ≡ [] → ⊥)
    by false d e f = let no : None ≡ Some flags = rw e at h in absurd cc
    by true true e f = let no : None ≡ Some flags = rw (e, f) at h in absurd cc
    by true false e f =
        let yes : Some (x ∷ xs) ≡ Some flags = rw (e, f) at h in
        let same : x ∷ xs ≡ flags = cc in
        let hyphen : c ≡ 45 = same_number c 45 e in
        (rw (hyphen, same) refl, λ none. let bad : x ∷ xs ≡ [] = same ∙ none in absurd cc)

first_flag : (flags : Text) → IsUtf8 flags → (flags ≡ [] → ⊥) → (x : ℕ) × (slice_get (chars flags) 0 ≡ Some x)
first_flag flags u some = by (chars flags) refl
  where
    by : (cs : List ℕ) → chars flags ≡ cs → (x : ℕ) × (slice_get (chars flags) 0 ≡ Some x)
    by [] e = absurd (some (sym (encodes-chars flags u) ∙ ap encodes e))
    by (x ∷ xs) e = (x, ap (λ (ys : List ℕ). slice_get ys 0) e)

short_word : (word flags : Text) → IsUtf8 word → long_of word ≡ None → short_of word ≡ Some flags → IsShort word
short_word word flags u long h =
    let parts = flags_of word flags h in
    let after : IsUtf8 flags =
    IsUtf8-past_char word flags 45 u
    (parts.0 ∙ ap (λ (c : List ℕ). c ++ flags) (sym (encode_ascii 45 (omega arith)))) in
    let first = first_flag flags after parts.1 in
    (long, flags, first.0, h, first.1)

abbrev Seen : Text → Type 0
Seen word = (is_dashes word ≡ true) ⊎ (IsPlainWord word ⊎ IsOptionWord word)

-- a word is `--`, or plain, or an option
pub seen : (word : Text) → IsUtf8 word → Seen word
seen word u = dashed (is_dashes word) refl
  where
    shorts : (o : Option Text) → is_dashes word ≡ false → long_of word ≡ None → short_of word ≡ o → Seen word
    shorts None d long e = inr (inl (record { long = long; short = e; dashes = d }))
    shorts (Some flags) d long e =
        inr (inr (record { dashes = d; is = rw (long, e) refl; how = inr (short_word word flags u long e) }))

    longs : (o : Option (Text × Option Text)) → is_dashes word ≡ false → long_of word ≡ o → Seen word
    longs None d e = shorts (short_of word) d e refl
    longs (Some p) d e = inr (inr (record { dashes = d; is = rw e refl; how = inl (p, e) }))

    dashed : (b : Bool) → is_dashes word ≡ b → Seen word
    dashed true d = inl d
    dashed false d = longs (long_of word) d refl

-- ---- the flags of a command

-- the argument asks for help or the version, and takes no value
pub record IsRequest (a : Rule) : Type 0 where
  pub alone : takes_values a ≡ false
  pub asks : (again : Bool) (rows : List Found) → is_empty (use_fault again a [] rows) ≡ false

-- each argument is a positional, or such a request
abbrev pub AreRequests : List Rule → Type 0
AreRequests [] = ⊤
AreRequests (a ∷ rest) = ((is_some a.index ≡ true) ⊎ IsRequest a) × AreRequests rest

abbrev MayRequest : Option Rule → Type 0
MayRequest None = ⊤
MayRequest (Some a) = IsRequest a

found_request : (has : Rule → Bool) (c : List Rule) → AreRequests c
    → MayRequest (find (λ a. not (is_some a.index) && has a) c)
found_request has [] are = tt
found_request has (a ∷ rest) are = by (not (is_some a.index) && has a) refl are.0 (found_request has rest are.1)
  where
    by : (b : Bool) → (not (is_some a.index) && has a) ≡ b → (is_some a.index ≡ true) ⊎ IsRequest a
        → MayRequest (find (λ a. not (is_some a.index) && has a) rest)
        → MayRequest (find (λ a. not (is_some a.index) && has a) (a ∷ rest))
    by false e is more = rw e more
    by true e (inr request) more = rw e request
    by true e (inl index) more = let bad : false ≡ true = rw index at e in absurd cc

react_fails : (c : List Rule) (again : Bool) (a : Rule) (h : Held) → IsRequest a
    → is_empty (react_fault c again a [] h) ≡ false
react_fails c again a h request = second_fails _ _ (request.asks again _)

long_fails : (c : List Rule) (again : Bool) (found : Option Rule) (v : Option Text) (h : Held) → MayRequest found
    → is_empty (long_fault c again found v h) ≡ false
long_fails c again None v h may = refl {a = false}
long_fails c again (Some a) None h request = rw request.alone (react_fails c again a h request)
long_fails c again (Some a) (Some v) h request = rw request.alone (refl {a = false})

short_fails : (c : List Rule) (again : Bool) (found : Option Rule) (rest : Text) (h : Held) (next : Held → Kinds)
    → MayRequest found → is_empty (short_fault c again found rest h next) ≡ false
short_fails c again None rest h next may = refl {a = false}
short_fails c again (Some a) rest h next request = rw request.alone (first_fails _ _ (react_fails c again a h request))

-- the first of the flags fails
flags_fail : (c : List Rule) (again : Bool) (x : ℕ) (flags : Text) (h : Held) → AreRequests c
    → slice_get (chars flags) 0 ≡ Some x → (flags ≡ [] → ⊥)
    → is_empty (flags_fault c again (length flags) flags 0 h) ≡ false
unfolding flags_fault
flags_fail c again x [] h are first some = absurd (some refl)
flags_fail c again x (f ∷ fs) h are first some =
    rw first (short_fails c again (arg_by_short c x) _ _ _ (found_request _ c are))

-- ---- a word of a walk

option_fails : (s : Shape) (word : Text) (h : Held) → AreRequests s.rules → h.skip ≡ 0 → IsOptionWord word
    → is_empty (other_fault s None word h) ≡ false
option_fails s word h are skip is = by is.how
  where
    by : IsLong word ⊎ IsShort word → is_empty (other_fault s None word h) ≡ false
    by (inl (p, e)) =
        rw (
          is.dashes,
          e,
        ) (long_fails s.rules s.args_override_self (arg_by_long s.rules p.0) p.1 h (found_request _ s.rules are))
    by (inr (long, flags, x, e, first)) =
        rw (
          is.dashes,
          long,
          e,
          skip,
        ) (flags_fail s.rules s.args_override_self x flags _ are first (flags_of word flags e).1)

-- the walk is between two words, before any `--`, and no subcommand was met
abbrev pub IsGoing : Walk → Type 0
IsGoing w = (w.stopped ≡ None) × (w.is_trailing ≡ false) × (w.held.skip ≡ 0)

pub turn_fails : (s : Shape) (names : Names) (w : Walk) (word : Text) → AreRequests s.rules → IsGoing w
    → subcommand_met names w.waiting word ≡ None → IsOptionWord word → is_empty (turn_fault s names w word) ≡ false
turn_fails s names w word are going met is =
    rw (going.0, going.1, met) (first_fails _ _ (option_fails s word w.held are going.2 is))

pub nothing_met : (waiting : Waiting) (word : Text) → subcommand_met [] waiting word ≡ None
nothing_met idle word = refl
nothing_met (option id) word = refl
nothing_met positional word = refl

-- a word that fails after others, whether these pass or not
pub fails_after : (s : Shape) (names : Names) (w : Walk) (before : List Text) (word : Text) (rest : List Text)
    → is_empty (turn_fault s names (fold (walked s.rules names) w before) word) ≡ false
    → is_empty (walk_fault s names w (before ++ word ∷ rest)) ≡ false
unfolding walk_fault
fails_after s names w [] word rest h = first_fails _ _ h
fails_after s names w (b ∷ before) word rest h =
    second_fails _ _ (fails_after s names (walked s.rules names w b) before word rest h)
