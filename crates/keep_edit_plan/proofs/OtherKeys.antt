-- The first parts of the keys of an inline table's entries, by the key parts that stand where the entries begin.
--
-- Each entry begins with the first part of its key (`entry_at`), and the byte after that is no byte of a bare key; so a
-- key part that is read there is this one (`part_is`). An induction over the entries follows their places in the text
-- (`entries_parts`). What an entry mentions is below its first key part, so none of it is at a key that differs
-- (`keyed_free`).
--
-- Theorems: `value_parts`; `value_free`: where no key begins with a key, nothing is said at it.
use Rattle.std.proofs.Common.{◌≡◌, ℕ, ◌+◌, Bool, true, false, ◌||◌, ◌&&◌, List, [], ◌∷◌, ◌++◌, length, drop}
use Rattle.std.proofs.Common.{map, refl, sym, ap, ◌∙◌, subst, arith, append_assoc, length-append, take_at, Option, Some}
use Rattle.std.proofs.Common.{None}
use Rattle.std.specs.Prelude.{codes}
use Rattle.std.specs.Str.{bytes_eq}
use Rattle.std.specs.List.{AllByRecursion, flat_map, list_any}
use Rattle.std.proofs.lemmas.Bool.Decides.{nat_tests}
use Rattle.std.proofs.lemmas.List.{append-nil, drop-drop}
use Rattle.std.proofs.lemmas.List.Folds.{list_any-append}
use Rattle.keep_types.specs.declared.leaf.Profile.TheVariants.{Strict, Wide}
use Rattle.keep_token.specs.Abnf.{is_bare, is_ws}
use Rattle.keep_token.specs.Scanning.{first}
use Rattle.keep_token.proofs.Shared.{key_again, leaf_wider}
use Rattle.keep_syntax.specs.Tree.{Body, Entries, Further, Gap, Name, Value, comma_leaves, entry, further_leaves}
use Rattle.keep_syntax.specs.Tree.{Written, closing, inline, named_leaves, none, opening, text_of, value_text}
use Rattle.keep_syntax.specs.Grammar.{AreEntries, IsFurther, IsKeyPart, IsName, IsSpace, IsValue, in_inline, place_in}
use Rattle.keep_syntax.proofs.Shared.{space_class}
use Rattle.keep_path.specs.Path.{key, same_path}
use Rattle.keep_meaning.specs.Marks.{Mention, below, dotted, value}
use Rattle.keep_meaning.specs.Meaning.{body_fact, entries_mentions, key_value, keyed_mentions}
use Rattle.keep_meaning.specs.Meaning.{further_value, keys_of, mentions_of_value, string_value, valued_mentions}
use Rattle.keep_meaning.specs.Nodes.{is_at}
use Rattle.keep_edit_spec.specs.Values.{entries_text, entry_back}
use Rattle.keep_edit_spec.proofs.Shared.{entry-text, text_of-append}
use Rattle.keep_edit_plan.specs.OpenKeyvals.{IsOther, KeyIs, KeysAre}
use Rattle.keep_edit_plan.specs.OpenValues.{AreLaid, FirstPartsAre}
use Rattle.keep_edit_plan.specs.declared.open_value.EntryPlace.{EntryPlace}
use Rattle.keep_edit_plan.proofs.TakenEntries.{drop_past, end_len, round, round_split, to_end}

-- ---- what is mentioned

no_pair : (a b c : Bool) → a ≡ false → c ≡ false → ((a && b) || c) ≡ false
no_pair false b c e f = f
no_pair true b c e f = absurd cc

no_either : (a c : Bool) → a ≡ false → c ≡ false → (a || c) ≡ false
no_either false c e f = f
no_either true c e f = absurd cc

module _ (name : List ℕ) where
  abbrev at_name : Mention → Bool
  at_name = is_at (key name ∷ [])

  below_free : (k : List ℕ) (ms : List Mention) → bytes_eq k name ≡ false
      → list_any at_name (map (below (key k ∷ [])) ms) ≡ false
  below_free k [] e = refl
  below_free k (m ∷ ms) e =
      no_pair (bytes_eq k name) (same_path m.path []) (list_any at_name (map (below (key k ∷ [])) ms)) e
      (below_free k ms e)

  keyed_free : (k : List ℕ) (ks : List (List ℕ)) (ms : List Mention) → bytes_eq k name ≡ false
      → list_any at_name (keyed_mentions (k ∷ ks) ms) ≡ false
  keyed_free k [] ms e = below_free k ms e
  keyed_free k (l ∷ ks) ms e = below_free k (record { path = []; kind = dotted } ∷ keyed_mentions (l ∷ ks) ms) e

-- ---- what is read

not_bare : (c : ℕ) → is_ws c ≡ true → is_bare c ≡ false
not_bare c h = grind (arith, nat_tests)

-- the text of a name, and what comes after the first part of its key
abbrev pub after_part : Name → List ℕ → List ℕ
after_part nm y =
    text_of (flat_map further_leaves nm.key.more) ++ (text_of nm.before ++ (0x3D ∷ (text_of nm.after ++ y)))

pub name_split : (nm : Name) (y : List ℕ) → text_of (named_leaves (Some nm)) ++ y ≡ nm.key.first.text ++ after_part nm y
name_split nm y = simp (text_of-append, append_assoc) refl

pub further_split : (f : Further) (fs : List Further) (y : List ℕ)
    → text_of (flat_map further_leaves (f ∷ fs)) ++ y ≡ text_of f.before
    ++ (0x2E ∷ (text_of f.after ++ (f.part.text ++ (text_of (flat_map further_leaves fs) ++ y))))
further_split f fs y = simp (text_of-append, append_assoc, append-nil) refl

pub more_stops : (more : List Further) (before : Gap) (x : List ℕ) → AllByRecursion (IsFurther Strict) more → IsSpace
    before
    → is_bare (first (text_of (flat_map further_leaves more) ++ (text_of before ++ (0x3D ∷ x)))) ≡ false
more_stops [] before x h space = space_class is_bare before (0x3D ∷ x) space not_bare refl
more_stops (f ∷ fs) before x h space =
    subst (λ (t : List ℕ). is_bare (first t) ≡ false) (sym (further_split f fs (text_of before ++ (0x3D ∷ x))))
    (space_class is_bare f.before _ h.0.before not_bare refl)

pub part_is : (P : List ℕ → Type 0) (w : Written) (rest : List ℕ) → IsKeyPart Strict w → is_bare (first rest) ≡ false
    → KeyIs P (w.text ++ rest) → P (key_value w)
part_is P w rest valid stop is =
    subst (λ (t : List ℕ). P (string_value w.leaf t)) (take_at w.text rest (length w.text) refl)
    (is w.leaf (length w.text) (key_again Wide w.leaf w.text rest valid.0 (leaf_wider w.leaf w.text valid.1) stop))

-- ---- along the entries

module _ (bytes : List ℕ) where
  -- so many bytes further on
  pub further_on : (end m : ℕ) (a b : List ℕ) → drop end bytes ≡ a ++ b → length a ≡ m → drop (end + m) bytes ≡ b
  further_on end m a b e long =
      sym (drop-drop m end bytes) ∙ ap (drop m) e ∙ drop_past a b 0 m (omega arith)

  -- where an entry begins, its key does
  pub entry_at : (end : ℕ) (lead : List ℕ) (gap : Gap) (nm : Name) (body : Body) (nested : Entries) (after : Gap)
      (comma : Option Gap) (rest : Entries) (right : List ℕ) (p : EntryPlace)
      → p.gap ≡ length lead + length (text_of gap)
      → drop end bytes ≡ round lead gap (entry (Some nm) body nested after comma rest) right
      → (y : List ℕ) × (drop (end + p.gap) bytes ≡ nm.key.first.text ++ after_part nm y)
  entry_at end lead gap nm body nested after comma rest right p eg here =
      let es : Entries = entry (Some nm) body nested after comma rest in
      let y : List ℕ =
      (text_of (opening body) ++ (entries_text nested ++ text_of (closing body)))
      ++ (entry_back after comma rest ++ right) in
      let text : entries_text es ++ right ≡ nm.key.first.text ++ after_part nm y =
      ap (λ (t : List ℕ). t ++ right) (entry-text (Some nm) body nested after comma rest)
      ∙ simp append_assoc refl ∙ name_split nm y in (
        y,
        further_on end p.gap (lead ++ text_of gap) (entries_text es ++ right)
            (here ∙ sym (append_assoc lead (text_of gap) (entries_text es ++ right)))
            (length-append lead (text_of gap) ∙ sym eg) ∙ text,
      )

module _ (P : List ℕ → Type 0) (bytes : List ℕ) where
  -- the first of these entries
  first_part : (end : ℕ) (lead : List ℕ) (gap : Gap) (nm : Name) (body : Body) (nested : Entries) (after : Gap)
      (comma : Option Gap) (rest : Entries) (right : List ℕ) (p : EntryPlace) → IsName Strict nm
      → p.gap ≡ length lead + length (text_of gap)
      → drop end bytes ≡ round lead gap (entry (Some nm) body nested after comma rest) right
      → KeyIs P (drop (end + p.gap) bytes) → P (key_value nm.key.first)
  first_part end lead gap nm body nested after comma rest right p valid eg here is =
      let (y, at) = entry_at bytes end lead gap nm body nested after comma rest right p eg here in
      part_is P nm.key.first (after_part nm y) valid.key.first
      (more_stops nm.key.more nm.before (text_of nm.after ++ y) valid.key.more valid.before) (subst (KeyIs P) at is)

  entries_parts : (end : ℕ) (lead : List ℕ) (gap : Gap) (es : Entries) (right : List ℕ) (places : List EntryPlace)
      → AreEntries Strict in_inline es → AreLaid (length lead + length (text_of gap)) es places
      → drop end bytes ≡ round lead gap es right → KeysAre P bytes end places → FirstPartsAre P es
  entries_parts end lead gap none right places valid laid here are = tt
  entries_parts end lead gap (entry None body nested after comma rest) right places valid laid here are =
      absurd valid.0
  entries_parts end lead gap (entry (Some nm) body nested after comma rest) right [] valid laid here are = absurd laid
  entries_parts end lead gap (entry (Some nm) body nested after None (entry a b c d e f)) right (p ∷ ps) valid laid here
      are = absurd valid.4
  entries_parts end lead gap (entry (Some nm) body nested after None none) right (p ∷ ps) valid laid here are =
      (first_part end lead gap nm body nested after None none right p valid.0 laid.0 here are.0, tt)
  entries_parts end lead gap (entry (Some nm) body nested after (Some g) rest) right (p ∷ ps) valid laid here are =
      let lead' : List ℕ = text_of after ++ codes "," in
      let size : length (text_of after) + length (text_of (comma_leaves (Some g))) ≡ length lead' + length (text_of g) =
      omega (arith, length-append (text_of after) (codes ",")) in
      let laid' : AreLaid (length lead' + length (text_of g)) rest ps =
      subst (λ (m : ℕ). AreLaid m rest ps) size laid.1.1 in
      let there : drop (end + p.gap + p.len) bytes ≡ round lead' g rest right =
      ap (λ (m : ℕ). drop m bytes) (let e : end + p.gap + p.len ≡ end + (p.gap + p.len) = omega arith in e)
      ∙ further_on bytes end (p.gap + p.len) (to_end lead gap (Some nm) body nested) (round lead' g rest right)
      (here ∙ round_split lead gap (Some nm) body nested after g rest right)
      (end_len lead gap (Some nm) body nested p laid.0 laid.1.0) in (
        first_part end lead gap nm body nested after (Some g) rest right p valid.0 laid.0 here are.0,
        entries_parts (end + p.gap + p.len) lead' g rest right ps valid.5 laid' there are.1,
      )

-- ---- nothing is said

entries_free : (name : List ℕ) (n : ℕ) (es : Entries) → AreEntries Strict in_inline es → FirstPartsAre (IsOther name) es
    → list_any (is_at (key name ∷ [])) (entries_mentions n es) ≡ false
entries_free name n none valid other = refl
entries_free name n (entry None body nested after comma rest) valid other = absurd valid.0
entries_free name n (entry (Some nm) body nested after comma rest) valid other =
    let ms : List Mention = valued_mentions (value (body_fact body)) (entries_mentions 0 nested) in
    list_any-append (is_at (key name ∷ [])) (keyed_mentions (keys_of nm.key) ms) (entries_mentions (n + 1) rest)
    ∙ no_either (list_any (is_at (key name ∷ [])) (keyed_mentions (keys_of nm.key) ms))
    (list_any (is_at (key name ∷ [])) (entries_mentions (n + 1) rest))
    (keyed_free name (key_value nm.key.first) (map further_value nm.key.more) ms other.0)
    (entries_free name (n + 1) rest valid.5 other.1)

-- ---- of a value

inline_entries : (first : Gap) (v : Value) → IsValue Strict v → v.body ≡ inline first
    → AreEntries Strict in_inline v.nested
inline_entries first v valid is = subst (λ (b : Body). AreEntries Strict (place_in b) v.nested) is valid.nested

pub value_parts : (P : List ℕ → Type 0) (bytes : List ℕ) (places : List EntryPlace) (first : Gap) (v : Value)
    → bytes ≡ value_text v → IsValue Strict v → v.body ≡ inline first → AreLaid (length (text_of first)) v.nested places
    → KeysAre P bytes 1 places → FirstPartsAre P v.nested
value_parts P bytes places first v spelled valid is laid are =
    let text : bytes ≡ 0x7B ∷ round [] first v.nested (codes "}") =
    spelled ∙ ap (λ (b : Body). value_text (record { body = b; nested = v.nested })) is ∙ simp text_of-append refl in
    entries_parts P bytes 1 [] first v.nested (codes "}") places (inline_entries first v valid is)
    (subst (λ (m : ℕ). AreLaid m v.nested places)
    (let e : length (text_of first) ≡ length {A = ℕ} [] + length (text_of first) = omega arith in e) laid)
    (ap (drop 1) text) are

pub value_free : (name : List ℕ) (first : Gap) (v : Value) → IsValue Strict v → v.body ≡ inline first
    → FirstPartsAre (IsOther name) v.nested → list_any (is_at (key name ∷ [])) (mentions_of_value v) ≡ false
value_free name first v valid is other = entries_free name 0 v.nested (inline_entries first v valid is) other
