-- The bytes of a line that an insert adds, and its keys: lines of one path have the same keys if they come to one
-- place, and keys that are as long if they have the same bytes in two documents.
--
-- The line is the keys, the value and a newline. The keys are what is left of the path after the line's body (`whole`).
-- Lines at one place come before the same line (`same_number`), and so are of one body. Where one body is longer than
-- the other, its keys are fewer, and each key that they have less has two bytes or more with the point after it
-- (`fewer`); newlines differ by one byte.
--
-- Theorems: `keyval_text`, `line_text_is`; `same_keys`, `same_line`; `as_long`.
use Rattle.std.proofs.Common.{◌≡◌, ℕ, suc, ◌+◌, ◌<◌, ◌≤◌, List, [], ◌∷◌, ◌++◌, length, map, take, drop, refl}
use Rattle.std.proofs.Common.{sym, ap, subst, ◌∙◌, append_assoc, length-append, arith, inl, inr}
use Rattle.std.proofs.lemmas.Bool.{cases_lt}
use Rattle.std.proofs.lemmas.List.{append-nil, map-append}
use Rattle.std.proofs.lemmas.List.Elements.{filter_map-append}
use Rattle.keep_types.specs.declared.leaf.Profile.{Profile}
use Rattle.keep_token.specs.Encoded.{encoded_key}
use Rattle.keep_syntax.specs.Tree.{Written, Value, Name, Document, ended_leaves, keyval, name_leaves, text_of}
use Rattle.keep_syntax.specs.Tree.{value_leaves, value_text}
use Rattle.keep_path.specs.Path.{Part, key}
use Rattle.keep_meaning.specs.Meaning.{lines}
use Rattle.keep_edit_spec.specs.Edits.{name_with}
use Rattle.keep_edit_spec.specs.Laws.{IsEditable}
use Rattle.keep_edit_spec.specs.Lines.{new_line, newline_of, reading_at}
use Rattle.keep_edit_spec.specs.Look.{key_text, keys_in}
use Rattle.keep_edit_spec.specs.TextChanges.{TextChange}
use Rattle.keep_edit_spec.proofs.Common.LineEnds.{newline_ends}
use Rattle.keep_edit_spec.proofs.Common.NewLines.{newline_is}
use Rattle.keep_edit_spec.proofs.Common.Texts.{text_of-append}
use Rattle.keep_edit_spec.proofs.Growth.NewlineLength.{newline_short}
use Rattle.keep_edit_spec.proofs.Insert.NewPath.{drop_prefix_parts, keys_of_map}
use Rattle.keep_edit_spec.proofs.Lists.AddedKeyval as added
use Rattle.keep_edit_spec.proofs.Lists.AddedKeyval.{AddsKeyval}
use Rattle.keep_edit_spec.proofs.Lists.GivenBytes.{key_has_bytes}
use Rattle.keep_edit_spec.proofs.Lists.Places.{width, width_grows}

-- keys as they are written in a new line, with the sign after them
abbrev pub keys_text : List (List ℕ) → List ℕ
keys_text keys = text_of (name_leaves (name_with keys))

-- ---- keys at the end of a path

-- Two paths that are the same end in the same keys, if these begin at one step.
pub same_keys : (path a b : List Part) (ks ls : List (List ℕ)) → path ≡ a ++ map key ks → path ≡ b ++ map key ls
    → length a ≡ length b → ks ≡ ls
same_keys path a b ks ls one other long =
    sym (keys_after a ks one) ∙ ap (λ (n : ℕ). keys_in (drop n path)) long ∙ keys_after b ls other
  where
    keys_after : (p : List Part) (js : List (List ℕ)) → path ≡ p ++ map key js → keys_in (drop (length p) path) ≡ js
    keys_after p js is =
        ap (λ (l : List Part). keys_in (drop (length p) l)) is ∙ ap keys_in (drop_prefix_parts p (map key js))
        ∙ keys_of_map js

-- one key more is two bytes more, and so are more
longer_by : (k l : List ℕ) (ls : List (List ℕ))
    → suc (suc (length (keys_text (l ∷ ls)))) ≤ length (keys_text (k ∷ l ∷ ls))
longer_by k l ls =
    omega (arith, key_has_bytes k, length-append (encoded_key k) (0x2E ∷ keys_text (l ∷ ls)))

longer : (k : List ℕ) (more : List (List ℕ)) (l : List ℕ) (ls : List (List ℕ))
    → suc (suc (length (keys_text (l ∷ ls)))) ≤ length (keys_text (k ∷ (more ++ l ∷ ls)))
longer k [] l ls = longer_by k l ls
longer k (j ∷ more) l ls = omega (arith, longer_by k j (more ++ l ∷ ls), longer j more l ls)

-- keys that begin after more steps
fewer : (a b : List Part) (ks : List (List ℕ)) (l : List ℕ) (ls : List (List ℕ))
    → a ++ map key ks ≡ b ++ map key (l ∷ ls) → length a < length b
    → suc (suc (length (keys_text (l ∷ ls)))) ≤ length (keys_text ks)
fewer a [] ks l ls is less = absurd (omega (arith, less))
fewer (x ∷ a) (y ∷ b) ks l ls is less =
    let rest : a ++ map key ks ≡ b ++ map key (l ∷ ls) = cc in fewer a b ks l ls rest (omega (arith, less))
fewer [] (y ∷ b) [] l ls is less = absurd cc
fewer [] (y ∷ b) (k ∷ ks) l ls is less =
    let rest : map key ks ≡ b ++ map key (l ∷ ls) = cc in
    let more : ks ≡ keys_in b ++ l ∷ ls =
    sym (keys_of_map ks) ∙ ap keys_in rest ∙ filter_map-append key_text b (map key (l ∷ ls))
    ∙ ap (λ (js : List (List ℕ)). keys_in b ++ js) (keys_of_map (l ∷ ls)) in
    subst (λ (js : List (List ℕ)). suc (suc (length (keys_text (l ∷ ls)))) ≤ length (keys_text (k ∷ js))) (sym more)
    (longer k (keys_in b) l ls)

-- Keys at the end of one path are as long, if they are so but for a byte.
nearly_as_long : (a b : List Part) (ks ls : List (List ℕ)) → 0 < length ks → 0 < length ls
    → a ++ map key ks ≡ b ++ map key ls → length (keys_text ks) < suc (suc (length (keys_text ls)))
    → length (keys_text ls) < suc (suc (length (keys_text ks))) → length (keys_text ks) ≡ length (keys_text ls)
nearly_as_long a b [] ls some other is low high = absurd (omega (arith, some))
nearly_as_long a b (k ∷ ks) [] some other is low high = absurd (omega (arith, other))
nearly_as_long a b (k ∷ ks) (l ∷ ls) some other is low high = elim (cases_lt (length a) (length b)) [
  | inl less ↦ absurd (omega (arith, low, fewer a b (k ∷ ks) l ls is less))
  | inr g ↦ elim (cases_lt (length b) (length a)) [
    | inl less ↦ absurd (omega (arith, high, fewer b a (l ∷ ls) k ks (sym is) less))
    | inr h ↦
        ap (λ (js : List (List ℕ)). length (keys_text js))
        (same_keys (a ++ map key (k ∷ ks)) a b (k ∷ ks) (l ∷ ls) refl is (omega (arith, g, h)))
  ]
]

-- ---- the line

pub keyval_text : (keys : List (List ℕ)) (value : Value) (newline : Written)
    → text_of (ended_leaves (new_line newline (keyval (name_with keys) value)))
    ≡ keys_text keys ++ (value_text value ++ newline.text)
keyval_text keys value newline =
    let name : Name = name_with keys in
    text_of-append ((name_leaves name ++ value_leaves value) ++ []) (newline ∷ [])
    ∙ ap (λ (t : List ℕ). t ++ (newline.text ++ []))
    (text_of-append (name_leaves name ++ value_leaves value) []
    ∙ append-nil (text_of (name_leaves name ++ value_leaves value))
    ∙ text_of-append (name_leaves name) (value_leaves value))
    ∙ ap (λ (t : List ℕ). (keys_text keys ++ value_text value) ++ t) (append-nil newline.text)
    ∙ append_assoc (keys_text keys) (value_text value) newline.text

module _ (profile : Profile) (limit : ℕ) (s : Document) (path : List Part) (value : Value) (c : TextChange)
    (h : AddsKeyval profile limit s path value c) where
  abbrev keys : List (List ℕ)
  keys = added.keys profile limit s path value c h

  abbrev newline : List ℕ
  newline = (newline_of s).text

  pub line_text_is : c.new ≡ keys_text keys ++ (value_text value ++ newline)
  line_text_is = h.puts.line ∙ keyval_text keys value (newline_of s)

  line_long : length c.new ≡ length (keys_text keys) + (length (value_text value) + length newline)
  line_long =
      omega (
        arith,
        ap (λ (t : List ℕ). length t) line_text_is,
        length-append (keys_text keys) (value_text value ++ newline),
        length-append (value_text value) newline,
      )

  abbrev body : List Part
  body = (reading_at h.n (lines s)).body

  -- its keys are the rest of the path after its body
  whole : path ≡ body ++ map key keys
  whole =
      let new : List (List ℕ) = h.inserts.text ∷ h.inserts.more in
      h.inserts.new ∙ ap (λ (p : List Part). p ++ map key new) h.holds
      ∙ append_assoc body (map key h.way) (map key new)
      ∙ ap (λ (p : List Part). body ++ p) (sym (map-append key h.way new))

  some : 0 < length keys
  some = omega (arith, length-append h.way (h.inserts.text ∷ h.inserts.more))

-- ---- two lines of one path

-- that come to one place in a document
module _ (profile : Profile) (limit : ℕ) (s : Document) (path : List Part) (value more : Value) (c d : TextChange)
    (fine : IsEditable profile limit s) (h : AddsKeyval profile limit s path value c)
    (k : AddsKeyval profile limit s path more d) (at : c.at ≡ d.at) where
  same_number : h.n ≡ k.n
  same_number = elim (cases_lt h.n k.n) [
    | inl less ↦
        let more : width (take h.n s.ended) < width (take k.n s.ended) =
        width_grows profile k.n h.n s.ended fine.valid.ended less k.few in
        absurd (omega (arith, at, h.puts.at, k.puts.at, more))
    | inr g ↦ elim (cases_lt k.n h.n) [
      | inl less ↦
          let more : width (take k.n s.ended) < width (take h.n s.ended) =
          width_grows profile h.n k.n s.ended fine.valid.ended less h.few in
          absurd (omega (arith, at, h.puts.at, k.puts.at, more))
      | inr e ↦ omega (arith, g, e)
    ]
  ]

  pub same_line : added.keys profile limit s path value c h ≡ added.keys profile limit s path more d k
  same_line =
      same_keys path (reading_at h.n (lines s)).body (reading_at k.n (lines s)).body
      (added.keys profile limit s path value c h) (added.keys profile limit s path more d k)
      (whole profile limit s path value c h) (whole profile limit s path more d k)
      (ap (λ (n : ℕ). length (reading_at n (lines s)).body) same_number)

-- that have the same bytes in two documents, and the same value
module _ (profile : Profile) (limit : ℕ) (s now : Document) (path : List Part) (value : Value) (c d : TextChange)
    (fine : IsEditable profile limit s) (then : IsEditable profile limit now)
    (h : AddsKeyval profile limit s path value c) (k : AddsKeyval profile limit now path value d)
    (new : c.new ≡ d.new) where
  abbrev keys_here : List (List ℕ)
  keys_here = added.keys profile limit s path value c h

  abbrev keys_there : List (List ℕ)
  keys_there = added.keys profile limit now path value d k

  bytes : length (keys_text keys_here) + length (newline_of s).text
      ≡ length (keys_text keys_there) + length (newline_of now).text
  bytes =
      omega (
        arith,
        ap (λ (t : List ℕ). length t) new,
        line_long profile limit s path value c h,
        line_long profile limit now path value d k,
      )

  pub as_long : length (keys_text keys_here) ≡ length (keys_text keys_there)
  as_long =
      let here : 0 < length (newline_of s).text =
      (newline_ends (newline_of s).text (newline_is profile s fine.valid).newline).0 in
      let there : 0 < length (newline_of now).text =
      (newline_ends (newline_of now).text (newline_is profile now then.valid).newline).0 in
      nearly_as_long (reading_at h.n (lines s)).body (reading_at k.n (lines now)).body keys_here keys_there
      (some profile limit s path value c h) (some profile limit now path value d k)
      (sym (whole profile limit s path value c h) ∙ whole profile limit now path value d k)
      (omega (arith, bytes, here, newline_short profile now then.valid))
      (omega (arith, bytes, there, newline_short profile s fine.valid))
