-- Where the key parts of a document are after a rename: each but the one that is replaced stays or moves with the text.
--
-- `PartStays` says it of one key part. Key parts are listed with their places, so in a text that ends before the change
-- they are as they were, and in one that begins after it each has moved by the bytes that come and go: `Moves` says
-- which of the two, and `key_moves`, `entries_moves`, `content_moves` and `lines_moves` follow the tree. Around the
-- change itself the search is followed: what comes before it stays, the part with the change is known by induction, and
-- for what comes after it the width of the changed part is known from the cut of its text (`cut_long`).
--
-- Theorems: `part_stays`: of the key part with a number; `parts_stay`: of all, in a document.
use Rattle.std.proofs.Common.{◌≡◌, ℕ, zero, suc, ◌+◌, ◌-◌, ◌<◌, ◌≤◌, List, [], ◌∷◌, ◌++◌, length, slice_get, refl, ap}
use Rattle.std.proofs.Common.{subst, ◌∙◌, length-append, arith, Option, Some, None}
use Rattle.std.specs.Prelude.{⊤, codes, position}
use Rattle.std.specs.List.{flat_map}
use Rattle.keep_types.specs.declared.leaf.Leaf.TheVariants as leaf
use Rattle.keep_types.specs.declared.syntax.KeyPart.{KeyPart}
use Rattle.keep_syntax.specs.Tree.{Written, Gap, Further, Key, Name, Body, Entries, none, entry, Value, Content, blank}
use Rattle.keep_syntax.specs.Tree.{keyval, header, element, Line, Ended, Document, token, further_leaves, key_leaves}
use Rattle.keep_syntax.specs.Tree.{name_leaves, named_leaves, opening, closing, comma_leaves, entries_leaves}
use Rattle.keep_syntax.specs.Tree.{content_leaves, comment_leaves, line_leaves, ended_leaves, bom_leaves, text_of}
use Rattle.keep_syntax.specs.Numbered as syntax
use Rattle.keep_syntax.specs.Numbered.{width, part_at, further_parts, key_parts, named_parts, value_start, nested_start}
use Rattle.keep_syntax.specs.Numbered.{entry_end, entries_parts, content_parts, line_parts, over_lines, next_line}
use Rattle.keep_syntax.specs.Numbered.{first_line}
use Rattle.keep_path.specs.Path.{Part, same_path, strip}
use Rattle.keep_meaning.specs.Marks.{Reading, start}
use Rattle.keep_meaning.specs.Meaning.{after_line, step}
use Rattle.keep_edit_spec.specs.Changed.{Changed, IsChangeOf, framed_change, within}
use Rattle.keep_edit_spec.specs.Values.{entries_text, entry_prefix, entry_back, text_of_value, in_entries, in_value}
use Rattle.keep_edit_spec.specs.Values.{rename_further, rename_part, rename_name, rename_entry, renaming}
use Rattle.keep_edit_spec.specs.Lines.{line_text, Page, page_text, with_page, in_document, in_lines, in_content}
use Rattle.keep_edit_spec.specs.Lines.{in_line, part_paths, rename_content, rename_line}
use Rattle.keep_edit_spec.specs.Edits.{key_part, nested, rename, change}
use Rattle.keep_edit_spec.proofs.Common.Texts.{EachIs, text_of-append, in_value-is, renaming-is, rename_name-is}
use Rattle.keep_edit_spec.proofs.Common.Texts.{name_text_of}
use Rattle.keep_edit_spec.proofs.Common.LineTexts.{in_line-is, rename_line-is}
use Rattle.keep_edit_spec.proofs.Common.DoneAtValue.{EachOf, of_within, of_or_else}

-- ---- one key part, and all

-- So many bytes from a byte on give place to new ones. The key part ends there or before; or it begins there, and the
-- new one is those new bytes; or it begins where those bytes end or after.
pub data PartStays (from size new : ℕ) (q q' : KeyPart) : Type 0 where
  ends_before : q.span.end ≤ from → q'.span.start ≡ q.span.start → q'.span.end ≡ q.span.end
      → PartStays from size new q q'
  begins_there : q.span.start ≡ from → q'.span.start ≡ from → q'.span.end ≡ from + new → PartStays from size new q q'
  begins_after : from + size ≤ q.span.start → q'.span.start + size ≡ q.span.start + new
      → q'.span.end + size ≡ q.span.end + new → PartStays from size new q q'

abbrev pub PartsStay : ℕ → ℕ → ℕ → List KeyPart → List KeyPart → Type 0
PartsStay from size new [] [] = ⊤
PartsStay from size new [] (q' ∷ qs') = ⊥
PartsStay from size new (q ∷ qs) [] = ⊥
PartsStay from size new (q ∷ qs) (q' ∷ qs') = PartStays from size new q q' × PartsStay from size new qs qs'

pub part_stays : (from size new k : ℕ) (qs qs' : List KeyPart) (q : KeyPart) → PartsStay from size new qs qs'
    → slice_get qs k ≡ Some q → (q' : KeyPart) × (slice_get qs' k ≡ Some q') × PartStays from size new q q'
part_stays from size new k [] [] q h here = absurd cc
part_stays from size new k [] (x' ∷ qs') q h here = absurd h
part_stays from size new k (x ∷ qs) [] q h here = absurd h
part_stays from size new zero (x ∷ qs) (x' ∷ qs') q h here =
    let same : x ≡ q = cc in (x', refl, subst (λ (y : KeyPart). PartStays from size new y x') same h.0)
part_stays from size new (suc k) (x ∷ qs) (x' ∷ qs') q h here = part_stays from size new k qs qs' q h.1 here

stay_join : (from size new : ℕ) (xs xs' ys ys' : List KeyPart) → PartsStay from size new xs xs'
    → PartsStay from size new ys ys' → PartsStay from size new (xs ++ ys) (xs' ++ ys')
stay_join from size new [] [] ys ys' h g = g
stay_join from size new [] (x' ∷ xs') ys ys' h g = absurd h
stay_join from size new (x ∷ xs) [] ys ys' h g = absurd h
stay_join from size new (x ∷ xs) (x' ∷ xs') ys ys' h g = (h.0, stay_join from size new xs xs' ys ys' h.1 g)

-- ---- a text without the change

-- a text begins at `at` and ends at `end` or before, and then begins at `at'`: before the change, or after it
data Moves (from size new at at' end : ℕ) : Type 0 where
  low : at' ≡ at → end ≤ from → Moves from size new at at' end
  high : from + size ≤ at → at' + size ≡ at + new → Moves from size new at at' end

width-append : (a b : List Written) → width (a ++ b) ≡ width a + width b
width-append a b = ap length (text_of-append a b) ∙ length-append (text_of a) (text_of b)

width-first : (w : Written) (ws : List Written) → width (w ∷ ws) ≡ length w.text + width ws
width-first w ws = length-append w.text (text_of ws)

furthers_long : (f : Further) (fs : List Further)
    → width (flat_map further_leaves (f ∷ fs))
    ≡ width f.before + 1 + width f.after + length f.part.text + width (flat_map further_leaves fs)
furthers_long f fs =
    omega (
      arith,
      width-append (further_leaves f) (flat_map further_leaves fs),
      width-append f.before (token leaf.Dot (0x2E ∷ []) ++ (f.after ++ (f.part ∷ []))),
      width-append (token leaf.Dot (0x2E ∷ [])) (f.after ++ (f.part ∷ [])),
      width-append f.after (f.part ∷ []),
      length-append f.part.text [],
    )

name_long : (n : Name) → width (name_leaves n) ≡ width (key_leaves n.key)
    + width (n.before ++ (token leaf.Equals (0x3D ∷ []) ++ n.after))
name_long n = width-append (key_leaves n.key) (n.before ++ (token leaf.Equals (0x3D ∷ []) ++ n.after))

pub name_some : (n : Name) → 0 < width (name_leaves n)
name_some n =
    omega (
      arith,
      name_long n,
      width-append n.before (token leaf.Equals (0x3D ∷ []) ++ n.after),
      width-append (token leaf.Equals (0x3D ∷ [])) n.after,
    )

value_long : (body : Body) (es : Entries)
    → width (opening body ++ (entries_leaves es ++ closing body))
    ≡ width (opening body) + width (entries_leaves es) + width (closing body)
value_long body es =
    omega (
      arith,
      width-append (opening body) (entries_leaves es ++ closing body),
      width-append (entries_leaves es) (closing body),
    )

entry_long : (name : Option Name) (body : Body) (nested : Entries) (after : Gap) (comma : Option Gap) (rest : Entries)
    → width (entries_leaves (entry name body nested after comma rest))
    ≡ width (named_leaves name) + width (opening body) + width (entries_leaves nested) + width (closing body)
    + width after + width (comma_leaves comma) + width (entries_leaves rest)
entry_long name body nested after comma rest =
    let d : List Written = comma_leaves comma ++ entries_leaves rest in
    let c : List Written = closing body ++ (after ++ d) in
    let b : List Written = entries_leaves nested ++ c in
    omega (
      arith,
      width-append (named_leaves name) (opening body ++ b),
      width-append (opening body) b,
      width-append (entries_leaves nested) c,
      width-append (closing body) (after ++ d),
      width-append after d,
      width-append (comma_leaves comma) (entries_leaves rest),
    )

module _ (from size new : ℕ) where
  -- a part of such a text
  moves_on : (at at' end x x' stop more : ℕ) → Moves from size new at at' end → at + more ≡ x → at' + more ≡ x'
      → stop ≤ end → Moves from size new x x' stop
  moves_on at at' end x x' stop more (low same before) e e' less =
      low (omega (arith, same, e, e')) (omega (arith, before, less))
  moves_on at at' end x x' stop more (high past by) e e' less =
      high (omega (arith, past, e)) (omega (arith, by, e, e'))

  one_moves : (at at' end : ℕ) (w : Written) → Moves from size new at at' end → at + length w.text ≤ end
      → PartStays from size new (part_at at w) (part_at at' w)
  one_moves at at' end w (low same before) fits =
      ends_before (omega (arith, fits, before)) same (ap (λ (n : ℕ). n + length w.text) same)
  one_moves at at' end w (high past by) fits = begins_after past by (omega (arith, by))

  further_moves : (at at' end : ℕ) (fs : List Further) → Moves from size new at at' end
      → at + width (flat_map further_leaves fs) ≤ end
      → PartsStay from size new (further_parts at fs) (further_parts at' fs)
  further_moves at at' end [] m fits = tt
  further_moves at at' end (f ∷ fs) m fits =
      let x : ℕ = at + width f.before + 1 + width f.after in
      let x' : ℕ = at' + width f.before + 1 + width f.after in
      let long = furthers_long f fs in (
        one_moves x x' end f.part
            (moves_on at at' end x x' end (width f.before + 1 + width f.after) m (omega arith) (omega arith)
            (omega arith)) (omega (arith, fits, long)),
        further_moves (x + length f.part.text) (x' + length f.part.text) end fs
            (moves_on at at' end (x + length f.part.text) (x' + length f.part.text) end
            (width f.before + 1 + width f.after + length f.part.text) m (omega arith) (omega arith) (omega arith))
            (omega (arith, fits, long)),
      )

  key_moves : (at at' end : ℕ) (k : Key) → Moves from size new at at' end → at + width (key_leaves k) ≤ end
      → PartsStay from size new (key_parts at k) (key_parts at' k)
  key_moves at at' end k m fits =
      let n : ℕ = length k.first.text in
      let long = width-first k.first (flat_map further_leaves k.more) in (
        one_moves at at' end k.first m (omega (arith, fits, long)),
        further_moves (at + n) (at' + n) end k.more
            (moves_on at at' end (at + n) (at' + n) end n m refl refl (omega arith)) (omega (arith, fits, long)),
      )

  named_moves : (at at' end : ℕ) (name : Option Name) → Moves from size new at at' end
      → at + width (named_leaves name) ≤ end
      → PartsStay from size new (named_parts at name) (named_parts at' name)
  named_moves at at' end None m fits = tt
  named_moves at at' end (Some n) m fits = key_moves at at' end n.key m (omega (arith, fits, name_long n))

  entries_moves : (at at' end : ℕ) (es : Entries) → Moves from size new at at' end
      → at + width (entries_leaves es) ≤ end
      → PartsStay from size new (entries_parts at es) (entries_parts at' es)
  entries_moves at at' end none m fits = tt
  entries_moves at at' end (entry name body nested after comma rest) m fits =
      let long = entry_long name body nested after comma rest in
      let i : ℕ = nested_start (value_start at name) body in
      let i' : ℕ = nested_start (value_start at' name) body in
      let e : ℕ = entry_end at name body nested after comma in
      let e' : ℕ = entry_end at' name body nested after comma in
      stay_join from size new (named_parts at name) (named_parts at' name)
      (entries_parts i nested ++ entries_parts e rest) (entries_parts i' nested ++ entries_parts e' rest)
      (named_moves at at' end name m (omega (arith, fits, long)))
      (stay_join from size new (entries_parts i nested) (entries_parts i' nested) (entries_parts e rest)
      (entries_parts e' rest)
      (entries_moves i i' end nested
      (moves_on at at' end i i' end (width (named_leaves name) + width (opening body)) m (omega arith) (omega arith)
      (omega arith)) (omega (arith, fits, long)))
      (entries_moves e e' end rest
      (moves_on at at' end e e' end
      (width (named_leaves name) + width (opening body) + width (entries_leaves nested) + width (closing body)
      + width after + width (comma_leaves comma)) m (omega arith) (omega arith) (omega arith))
      (omega (arith, fits, long))))

  content_moves : (at at' end : ℕ) (c : Content) → Moves from size new at at' end
      → at + width (content_leaves c) ≤ end
      → PartsStay from size new (content_parts at c) (content_parts at' c)
  content_moves at at' end blank m fits = tt
  content_moves at at' end (keyval name value) m fits =
      let long = width-append (name_leaves name) (opening value.body
      ++ (entries_leaves value.nested ++ closing value.body)) in
      let inner = value_long value.body value.nested in
      let i : ℕ = nested_start (at + width (name_leaves name)) value.body in
      let i' : ℕ = nested_start (at' + width (name_leaves name)) value.body in
      stay_join from size new (key_parts at name.key) (key_parts at' name.key) (entries_parts i value.nested)
      (entries_parts i' value.nested)
      (named_moves at at' end (Some name) m (omega (arith, fits, long)))
      (entries_moves i i' end value.nested
      (moves_on at at' end i i' end (width (name_leaves name) + width (opening value.body)) m (omega arith)
      (omega arith) (omega arith)) (omega (arith, fits, long, inner)))
  content_moves at at' end (header before k after) m fits =
      let last : List Written = after ++ token leaf.HeadClose (0x5D ∷ []) in
      key_moves (at + 1 + width before) (at' + 1 + width before) end k
      (moves_on at at' end (at + 1 + width before) (at' + 1 + width before) end (1 + width before) m (omega arith)
      (omega arith) (omega arith))
      (omega (
        arith,
        fits,
        width-first (record { leaf = leaf.HeadOpen; text = 0x5B ∷ [] }) (before ++ (key_leaves k ++ last)),
        width-append before (key_leaves k ++ last),
        width-append (key_leaves k) last,
      ))
  content_moves at at' end (element before k after) m fits =
      let last : List Written = after ++ token leaf.ElemClose (0x5D ∷ 0x5D ∷ []) in
      key_moves (at + 2 + width before) (at' + 2 + width before) end k
      (moves_on at at' end (at + 2 + width before) (at' + 2 + width before) end (2 + width before) m (omega arith)
      (omega arith) (omega arith))
      (omega (
        arith,
        fits,
        width-first (record { leaf = leaf.ElemOpen; text = 0x5B ∷ 0x5B ∷ [] }) (before ++ (key_leaves k ++ last)),
        width-append before (key_leaves k ++ last),
        width-append (key_leaves k) last,
      ))

-- ---- a text with the change

-- the key parts of a text that begins at `at`, before the change and after it
abbrev StaysBy : {A : Type 0} → ℕ → List KeyPart → List KeyPart → Changed A → Type 0
StaysBy at qs qs' c = PartsStay (at + length c.before) (length c.old) (length c.new) qs qs'

-- seen from outside
stays_framed : {A B : Type 0} (at from : ℕ) (qs qs' : List KeyPart) (outer : A → B) (left right : List ℕ)
    (c : Changed A) → from + length left ≡ at → StaysBy at qs qs' c
    → StaysBy from qs qs' (framed_change outer left right c)
stays_framed at from qs qs' outer left right c e h =
    let same : at + length c.before ≡ from + length (left ++ c.before) =
    omega (arith, e, length-append left c.before) in
    subst (λ (n : ℕ). PartsStay n (length c.old) (length c.new) qs qs') same h

-- of a change that is a cut of the text too
cut_within : {A B : Type 0} (f : A → List ℕ) (x : A) (P : Changed A → Type 0) (Q : Changed B → Type 0)
    (outer : A → B) (left right : List ℕ) (o : Option (Changed A))
    → ((c : Changed A) → IsChangeOf f x c → P c → Q (framed_change outer left right c)) → EachIs f x o → EachOf P o
    → EachOf Q (within outer left right o)
cut_within f x P Q outer left right None g is h = tt
cut_within f x P Q outer left right (Some c) g is h = g c is h

pub record IsCutLong {A : Type 0} (text : A → List ℕ) (x : A) (c : Changed A) : Type 0 where
  pub fits : length c.before + length c.old ≤ length (text x)
  pub grown : length (text c.to) + length c.old ≡ length (text x) + length c.new

pub cut_long : {A : Type 0} (text : A → List ℕ) (x : A) (c : Changed A) → IsChangeOf text x c → IsCutLong text x c
cut_long text x c cut =
    let was : length (text x) ≡ length c.before + (length c.old + length c.after) =
    three (text x) c.before c.old c.after cut.was in
    let is : length (text c.to) ≡ length c.before + (length c.new + length c.after) =
    three (text c.to) c.before c.new c.after cut.is in
    record { fits = omega (arith, was); grown = omega (arith, was, is) }
  where
    three : (t a b d : List ℕ) → t ≡ a ++ (b ++ d) → length t ≡ length a + (length b + length d)
    three t a b d e = ap length e ∙ length-append a (b ++ d) ∙ ap (λ (n : ℕ). length a + n) (length-append b d)

-- ---- keys

before_part : (f : Further)
    → length (text_of f.before ++ (codes "." ++ text_of f.after)) ≡ width f.before + 1 + width f.after
before_part f =
    omega (
      arith,
      length-append (text_of f.before) (codes "." ++ text_of f.after),
      length-append (codes ".") (text_of f.after),
    )

further_long : (f : Further)
    → width (further_leaves f) ≡ width f.before + 1 + width f.after + length f.part.text
further_long f = omega (arith, furthers_long f [], width-append (further_leaves f) [])

further_stay : (new : Written) (at n : ℕ) (fs : List Further)
    → EachOf (λ c. StaysBy at (further_parts at fs) (further_parts at c.to) c) (rename_further new n fs)
further_stay new at n [] = tt
further_stay new at zero (f ∷ fs) =
    let x : ℕ = at + width f.before + 1 + width f.after in
    let from : ℕ = at + length (text_of f.before ++ (codes "." ++ text_of f.after)) in
    let old : ℕ = length f.part.text in (
      begins_there (omega (arith, before_part f)) (omega (arith, before_part f)) (omega (arith, before_part f)),
      further_moves from old (length new.text) (x + old) (x + length new.text)
          (x + old + width (flat_map further_leaves fs)) fs
          (high (omega (arith, before_part f)) (omega arith)) (omega arith),
    )
further_stay new at (suc n) (f ∷ fs) =
    let x : ℕ = at + width f.before + 1 + width f.after in
    let next : ℕ = x + length f.part.text in
    of_within (λ c. StaysBy next (further_parts next fs) (further_parts next c.to) c)
    (λ c. StaysBy at (further_parts at (f ∷ fs)) (further_parts at c.to) c) (λ gs. f ∷ gs)
    (text_of (further_leaves f)) [] (rename_further new n fs)
    (λ c h. (
      ends_before (omega (arith, length-append (text_of (further_leaves f)) c.before, further_long f)) refl refl,
      stays_framed next at (further_parts next fs) (further_parts next c.to) (λ gs. f ∷ gs)
          (text_of (further_leaves f)) [] c (omega (arith, further_long f)) h,
    ))
    (further_stay new next n fs)

key_stays : (new : Written) (at n : ℕ) (k : Key)
    → EachOf (λ c. StaysBy at (key_parts at k) (key_parts at c.to) c) (rename_part new n k)
key_stays new at zero k =
    let old : ℕ = length k.first.text in (
      begins_there (omega arith) (omega arith) (omega arith),
      further_moves (at + 0) old (length new.text) (at + old) (at + length new.text)
          (at + old + width (flat_map further_leaves k.more)) k.more (high (omega arith) (omega arith)) (omega arith),
    )
key_stays new at (suc n) k =
    let next : ℕ = at + length k.first.text in
    of_within (λ c. StaysBy next (further_parts next k.more) (further_parts next c.to) c)
    (λ c. StaysBy at (key_parts at k) (key_parts at c.to) c) (λ fs. record k { more = fs }) k.first.text []
    (rename_further new n k.more)
    (λ c h. (
      ends_before (omega (arith, length-append k.first.text c.before)) refl refl,
      stays_framed next at (further_parts next k.more) (further_parts next c.to) (λ fs. record k { more = fs })
          k.first.text [] c refl h,
    ))
    (further_stay new next n k.more)

name_stays : (new : Written) (at n : ℕ) (name : Name)
    → EachOf (λ c. StaysBy at (key_parts at name.key) (key_parts at c.to.key) c) (rename_name new n name)
name_stays new at n name =
    let right : List ℕ = text_of name.before ++ (codes "=" ++ text_of name.after) in
    of_within (λ c. StaysBy at (key_parts at name.key) (key_parts at c.to) c)
    (λ c. StaysBy at (key_parts at name.key) (key_parts at c.to.key) c) (λ k. record name { key = k }) [] right
    (rename_part new n name.key)
    (λ c h. stays_framed at at (key_parts at name.key) (key_parts at c.to) (λ k. record name { key = k }) [] right c
    (omega arith) h)
    (key_stays new at n name.key)

-- ---- entries

-- the key parts in a value that begins at `at`
abbrev value_parts : ℕ → Value → List KeyPart
value_parts at v = entries_parts (nested_start at v.body) v.nested

-- the change is in the value of the first entry
first_value : (at : ℕ) (name : Option Name) (after : Gap) (comma : Option Gap) (rest : Entries) (v : Value)
    (c : Changed Value) → IsChangeOf text_of_value v c
    → StaysBy (value_start at name) (value_parts (value_start at name) v) (value_parts (value_start at name) c.to) c
    → StaysBy at (entries_parts at (entry name v.body v.nested after comma rest))
    (entries_parts at (entry name c.to.body c.to.nested after comma rest))
    (framed_change (λ (w : Value). entry name w.body w.nested after comma rest) (text_of (named_leaves name))
    (entry_back after comma rest) c)
first_value at name after comma rest v c cut h =
    let left : List ℕ = text_of (named_leaves name) in
    let from : ℕ = at + length (left ++ c.before) in
    let old : ℕ = length c.old in
    let new : ℕ = length c.new in
    let outer : Value → Entries = λ (w : Value). entry name w.body w.nested after comma rest in
    let end : ℕ = entry_end at name v.body v.nested after comma in
    let end' : ℕ = entry_end at name c.to.body c.to.nested after comma in
    let long = cut_long text_of_value v c cut in
    let begun = length-append left c.before in
    let was = value_long v.body v.nested in
    let is = value_long c.to.body c.to.nested in
    stay_join from old new (named_parts at name) (named_parts at name)
    (value_parts (value_start at name) v ++ entries_parts end rest)
    (value_parts (value_start at name) c.to ++ entries_parts end' rest)
    (named_moves from old new at at (at + length left) name (low refl (omega (arith, begun))) (omega arith))
    (stay_join from old new (value_parts (value_start at name) v) (value_parts (value_start at name) c.to)
    (entries_parts end rest) (entries_parts end' rest)
    (stays_framed (value_start at name) at (value_parts (value_start at name) v)
    (value_parts (value_start at name) c.to) outer left (entry_back after comma rest) c refl h)
    (entries_moves from old new end end' (end + width (entries_leaves rest)) rest
    (high (omega (arith, begun, was, long.fits)) (omega (arith, was, is, long.grown))) (omega arith)))

-- the change is in a later entry
later_entry : (at : ℕ) (name : Option Name) (body : Body) (nested : Entries) (after : Gap) (comma : Option Gap)
    (rest : Entries) (c : Changed Entries)
    → StaysBy (entry_end at name body nested after comma)
    (entries_parts (entry_end at name body nested after comma) rest)
    (entries_parts (entry_end at name body nested after comma) c.to) c
    → StaysBy at (entries_parts at (entry name body nested after comma rest))
    (entries_parts at (entry name body nested after comma c.to))
    (framed_change (entry name body nested after comma)
    (entry_prefix name body nested ++ (text_of after ++ text_of (comma_leaves comma))) [] c)
later_entry at name body nested after comma rest c h =
    let left : List ℕ = entry_prefix name body nested ++ (text_of after ++ text_of (comma_leaves comma)) in
    let from : ℕ = at + length (left ++ c.before) in
    let old : ℕ = length c.old in
    let new : ℕ = length c.new in
    let i : ℕ = nested_start (value_start at name) body in
    let end : ℕ = entry_end at name body nested after comma in
    let begun = length-append left c.before in
    let long = prefix_long at name body nested after comma in
    stay_join from old new (named_parts at name) (named_parts at name)
    (entries_parts i nested ++ entries_parts end rest) (entries_parts i nested ++ entries_parts end c.to)
    (named_moves from old new at at (value_start at name) name (low refl (omega (arith, begun, long))) (omega arith))
    (stay_join from old new (entries_parts i nested) (entries_parts i nested) (entries_parts end rest)
    (entries_parts end c.to)
    (entries_moves from old new i i (i + width (entries_leaves nested)) nested
    (low refl (omega (arith, begun, long))) (omega arith))
    (stays_framed end at (entries_parts end rest) (entries_parts end c.to) (entry name body nested after comma) left []
    c long h))
  where
    prefix_long : (at : ℕ) (name : Option Name) (body : Body) (nested : Entries) (after : Gap) (comma : Option Gap)
        → at + length (entry_prefix name body nested ++ (text_of after ++ text_of (comma_leaves comma)))
        ≡ entry_end at name body nested after comma
    prefix_long at name body nested after comma =
        let a : List ℕ = text_of (named_leaves name) in
        let b : List ℕ = text_of (opening body) in
        let c : List ℕ = entries_text nested in
        let d : List ℕ = text_of (closing body) in
        omega (
          arith,
          length-append (a ++ (b ++ (c ++ d))) (text_of after ++ text_of (comma_leaves comma)),
          length-append a (b ++ (c ++ d)),
          length-append b (c ++ d),
          length-append c d,
          length-append (text_of after) (text_of (comma_leaves comma)),
        )

-- the change is in the key of the first entry
first_name : (at : ℕ) (name : Name) (body : Body) (nested : Entries) (after : Gap) (comma : Option Gap)
    (rest : Entries) (right : List ℕ) (c : Changed Name) → IsChangeOf name_text_of name c
    → StaysBy at (key_parts at name.key) (key_parts at c.to.key) c
    → StaysBy at (entries_parts at (entry (Some name) body nested after comma rest))
    (entries_parts at (entry (Some c.to) body nested after comma rest))
    (framed_change (λ nm. entry (Some nm) body nested after comma rest) [] right c)
first_name at name body nested after comma rest right c cut h =
    let from : ℕ = at + length c.before in
    let old : ℕ = length c.old in
    let new : ℕ = length c.new in
    let i : ℕ = nested_start (value_start at (Some name)) body in
    let i' : ℕ = nested_start (value_start at (Some c.to)) body in
    let end : ℕ = entry_end at (Some name) body nested after comma in
    let end' : ℕ = entry_end at (Some c.to) body nested after comma in
    let long = cut_long name_text_of name c cut in
    stay_join from old new (key_parts at name.key) (key_parts at c.to.key)
    (entries_parts i nested ++ entries_parts end rest) (entries_parts i' nested ++ entries_parts end' rest) h
    (stay_join from old new (entries_parts i nested) (entries_parts i' nested) (entries_parts end rest)
    (entries_parts end' rest)
    (entries_moves from old new i i' (i + width (entries_leaves nested)) nested
    (high (omega (arith, long.fits)) (omega (arith, long.grown))) (omega arith))
    (entries_moves from old new end end' (end + width (entries_leaves rest)) rest
    (high (omega (arith, long.fits)) (omega (arith, long.grown))) (omega arith)))

module _ (new : Written) where
  abbrev EntriesStay : ℕ → Entries → Option (Changed Entries) → Type 0
  EntriesStay at es o = EachOf (λ c. StaysBy at (entries_parts at es) (entries_parts at c.to) c) o

  abbrev ValueStays : ℕ → Value → Option (Changed Value) → Type 0
  ValueStays at v o = EachOf (λ c. StaysBy at (value_parts at v) (value_parts at c.to) c) o

  later_stays : (at : ℕ) (name : Option Name) (body : Body) (nested : Entries) (after : Gap) (comma : Option Gap)
      (rest : Entries) (o : Option (Changed Entries)) → EntriesStay (entry_end at name body nested after comma) rest o
      → EntriesStay at (entry name body nested after comma rest) (within (entry name body nested after comma)
      (entry_prefix name body nested ++ (text_of after ++ text_of (comma_leaves comma))) [] o)
  later_stays at name body nested after comma rest o h =
      let end : ℕ = entry_end at name body nested after comma in
      of_within (λ c. StaysBy end (entries_parts end rest) (entries_parts end c.to) c)
      (λ c. StaysBy at (entries_parts at (entry name body nested after comma rest)) (entries_parts at c.to) c)
      (entry name body nested after comma)
      (entry_prefix name body nested ++ (text_of after ++ text_of (comma_leaves comma))) [] o
      (λ c k. later_entry at name body nested after comma rest c k) h

  -- a key in these entries
  entry_stays : (path : List Part) (at : ℕ) (es : Entries) → EntriesStay at es (rename_entry new path es)
  entry_stays path at none = tt
  entry_stays path at (entry None body nested after comma rest) = tt
  entry_stays path at (entry (Some name) body nested after comma rest) =
      by (entry_stays path (entry_end at (Some name) body nested after comma) rest) (strip path (step 0 (Some name)))
    where
      by : EntriesStay (entry_end at (Some name) body nested after comma) rest (rename_entry new path rest)
          → (o : Option (List Part))
          → EntriesStay at (entry (Some name) body nested after comma rest) (elim o [
            | Some more ↦
                within (λ nm. entry (Some nm) body nested after comma rest) []
                (text_of (opening body) ++ (entries_text nested
                ++ (text_of (closing body) ++ entry_back after comma rest)))
                (rename_name new (length path - 1) name)
            | None ↦
                within (entry (Some name) body nested after comma)
                (entry_prefix (Some name) body nested ++ (text_of after ++ text_of (comma_leaves comma))) []
                (rename_entry new path rest)
          ])
      by later None =
          later_stays at (Some name) body nested after comma rest (rename_entry new path rest) later
      by later (Some more) =
          let right : List ℕ = text_of (opening body) ++ (entries_text nested
          ++ (text_of (closing body) ++ entry_back after comma rest)) in
          cut_within name_text_of name (λ c. StaysBy at (key_parts at name.key) (key_parts at c.to.key) c)
          (λ c. StaysBy at (entries_parts at (entry (Some name) body nested after comma rest))
          (entries_parts at c.to) c)
          (λ nm. entry (Some nm) body nested after comma rest) [] right (rename_name new (length path - 1) name)
          (λ c cut h. first_name at name body nested after comma rest right c cut h)
          (rename_name-is new (length path - 1) name) (name_stays new at (length path - 1) name)

  -- in the brackets of a value
  bracketed : (at : ℕ) (body : Body) (es : Entries) (o : Option (Changed Entries))
      → EntriesStay (nested_start at body) es o
      → ValueStays at (record { body = body; nested = es })
      (within (λ x. record { body = body; nested = x }) (text_of (opening body)) (text_of (closing body)) o)
  bracketed at body es o h =
      let i : ℕ = nested_start at body in
      let outer : Entries → Value = λ x. record { body = body; nested = x } in
      of_within (λ c. StaysBy i (entries_parts i es) (entries_parts i c.to) c)
      (λ c. StaysBy at (entries_parts i es) (value_parts at c.to) c) outer (text_of (opening body))
      (text_of (closing body)) o
      (λ c k. stays_framed i at (entries_parts i es) (entries_parts i c.to) outer (text_of (opening body))
      (text_of (closing body)) c refl k) h

  act_stays : (path : List Part) (at : ℕ) (v : Value) → ValueStays at v (renaming new path v)
  act_stays [] at v = tt
  act_stays (p ∷ ps) at v =
      bracketed at v.body v.nested (rename_entry new (p ∷ ps) v.nested)
      (entry_stays (p ∷ ps) (nested_start at v.body) v.nested)

  value_stays : (path : List Part) (at : ℕ) (v : Value)
      → EntriesStay (nested_start at v.body) v.nested (in_entries (renaming new) path 0 v.nested)
      → ValueStays at v (in_value (renaming new) path v)
  value_stays path at v h =
      of_or_else (λ c. StaysBy at (value_parts at v) (value_parts at c.to) c)
      (within (λ es. record v { nested = es }) (text_of (opening v.body)) (text_of (closing v.body))
      (in_entries (renaming new) path 0 v.nested)) (renaming new path v)
      (bracketed at v.body v.nested (in_entries (renaming new) path 0 v.nested) h) (act_stays path at v)

  entries_stay : (path : List Part) (n at : ℕ) (es : Entries) → EntriesStay at es (in_entries (renaming new) path n es)
  entries_stay path n at none = tt
  entries_stay path n at (entry name body nested after comma rest) =
      by (entries_stay path (n + 1) (entry_end at name body nested after comma) rest)
      (λ more. entries_stay more 0 (nested_start (value_start at name) body) nested) (strip (step n name) path)
    where
      v : Value
      v = record { body = body; nested = nested }

      by : EntriesStay (entry_end at name body nested after comma) rest (in_entries (renaming new) path (n + 1) rest)
          → ((more : List Part) → EntriesStay (nested_start (value_start at name) body) nested
          (in_entries (renaming new) more 0 nested))
          → (o : Option (List Part))
          → EntriesStay at (entry name body nested after comma rest) (elim o [
            | None ↦
                within (entry name body nested after comma)
                (entry_prefix name body nested ++ (text_of after ++ text_of (comma_leaves comma))) []
                (in_entries (renaming new) path (n + 1) rest)
            | Some more ↦
                within (λ v. entry name v.body v.nested after comma rest) (text_of (named_leaves name))
                (entry_back after comma rest) (in_value (renaming new) more v)
          ])
      by later deeper None =
          later_stays at name body nested after comma rest (in_entries (renaming new) path (n + 1) rest) later
      by later deeper (Some more) =
          let from : ℕ = value_start at name in
          cut_within text_of_value v (λ c. StaysBy from (value_parts from v) (value_parts from c.to) c)
          (λ c. StaysBy at (entries_parts at (entry name body nested after comma rest)) (entries_parts at c.to) c)
          (λ x. entry name x.body x.nested after comma rest) (text_of (named_leaves name))
          (entry_back after comma rest) (in_value (renaming new) more v)
          (λ c cut h. first_value at name after comma rest v c cut h)
          (in_value-is (renaming new) (renaming-is new) more v) (value_stays more from v (deeper more))

  -- ---- lines

  abbrev ContentStays : ℕ → Content → Option (Changed Content) → Type 0
  ContentStays at x o = EachOf (λ c. StaysBy at (content_parts at x) (content_parts at c.to) c) o

  abbrev LineStays : syntax.Count → Line → Option (Changed Line) → Type 0
  LineStays n l o = EachOf (λ c. StaysBy n.at (line_parts n l) (line_parts n c.to) c) o

  -- the value of a keyval
  keyval_stays : (at : ℕ) (name : Name) (v : Value) (more : List Part)
      → ContentStays at (keyval name v)
      (within (keyval name) (text_of (name_leaves name)) [] (in_value (renaming new) more v))
  keyval_stays at name v more =
      let i : ℕ = value_start at (Some name) in
      let left : List ℕ = text_of (name_leaves name) in
      of_within (λ c. StaysBy i (value_parts i v) (value_parts i c.to) c)
      (λ c. StaysBy at (content_parts at (keyval name v)) (content_parts at c.to) c) (keyval name) left []
      (in_value (renaming new) more v)
      (λ c h. stay_join (at + length (left ++ c.before)) (length c.old) (length c.new) (key_parts at name.key)
      (key_parts at name.key) (value_parts i v) (value_parts i c.to)
      (named_moves (at + length (left ++ c.before)) (length c.old) (length c.new) at at i (Some name)
      (low refl (omega (arith, length-append left c.before))) (omega arith))
      (stays_framed i at (value_parts i v) (value_parts i c.to) (keyval name) left [] c refl h))
      (value_stays more i v (entries_stay more 0 (nested_start i v.body) v.nested))

  content_stays : (body path : List Part) (at : ℕ) (x : Content)
      → ContentStays at x (in_content (renaming new) body path x)
  content_stays body path at blank = tt
  content_stays body path at (keyval name v) = by (strip (body ++ step 0 (Some name)) path)
    where
      by : (o : Option (List Part)) → ContentStays at (keyval name v) (elim o [
        | None ↦ None
        | Some more ↦ within (keyval name) (text_of (name_leaves name)) [] (in_value (renaming new) more v)
      ])
      by None = tt
      by (Some more) = keyval_stays at name v more
  content_stays body path at (header before k after) = tt
  content_stays body path at (element before k after) = tt

  -- the line's own key
  own_stays : (at n : ℕ) (x : Content) → ContentStays at x (rename_content new n x)
  own_stays at n blank = tt
  own_stays at n (keyval name v) =
      let i : ℕ = nested_start (value_start at (Some name)) v.body in
      cut_within name_text_of name (λ c. StaysBy at (key_parts at name.key) (key_parts at c.to.key) c)
      (λ c. StaysBy at (content_parts at (keyval name v)) (content_parts at c.to) c) (λ nm. keyval nm v) []
      (text_of_value v) (rename_name new n name)
      (λ c cut h.
      (let long = cut_long name_text_of name c cut in
      let i' : ℕ = nested_start (value_start at (Some c.to)) v.body in
      let from : ℕ = at + length c.before in
      stay_join from (length c.old) (length c.new) (key_parts at name.key) (key_parts at c.to.key)
      (entries_parts i v.nested) (entries_parts i' v.nested) h
      (entries_moves from (length c.old) (length c.new) i i' (i + width (entries_leaves v.nested)) v.nested
      (high (omega (arith, long.fits)) (omega (arith, long.grown))) (omega arith))))
      (rename_name-is new n name) (name_stays new at n name)
  own_stays at n (header before k after) =
      let i : ℕ = at + 1 + width before in
      let outer : Key → Content = λ y. header before y after in
      let left : List ℕ = codes "[" ++ text_of before in
      let right : List ℕ = text_of after ++ codes "]" in
      of_within (λ c. StaysBy i (key_parts i k) (key_parts i c.to) c)
      (λ c. StaysBy at (key_parts i k) (content_parts at c.to) c) outer left right (rename_part new n k)
      (λ c h. stays_framed i at (key_parts i k) (key_parts i c.to) outer left right c
      (omega (arith, length-append (codes "[") (text_of before))) h) (key_stays new i n k)
  own_stays at n (element before k after) =
      let i : ℕ = at + 2 + width before in
      let outer : Key → Content = λ y. element before y after in
      let left : List ℕ = codes "[[" ++ text_of before in
      let right : List ℕ = text_of after ++ codes "]]" in
      of_within (λ c. StaysBy i (key_parts i k) (key_parts i c.to) c)
      (λ c. StaysBy at (key_parts i k) (content_parts at c.to) c) outer left right (rename_part new n k)
      (λ c h. stays_framed i at (key_parts i k) (key_parts i c.to) outer left right c
      (omega (arith, length-append (codes "[[") (text_of before))) h) (key_stays new i n k)

  in_line_stays : (n : syntax.Count) (l : Line) (o : Option (Changed Content))
      → ContentStays (n.at + width l.before) l.content o
      → LineStays n l (within (λ x. record l { content = x }) (text_of l.before)
      (text_of l.after ++ text_of (comment_leaves l.comment)) o)
  in_line_stays n l o h =
      let i : ℕ = n.at + width l.before in
      let outer : Content → Line = λ x. record l { content = x } in
      let right : List ℕ = text_of l.after ++ text_of (comment_leaves l.comment) in
      of_within (λ c. StaysBy i (content_parts i l.content) (content_parts i c.to) c)
      (λ c. StaysBy n.at (line_parts n l) (line_parts n c.to) c) outer (text_of l.before) right o
      (λ c k. stays_framed i n.at (content_parts i l.content) (content_parts i c.to) outer (text_of l.before) right c
      refl k) h

  value_line_stays : (path : List Part) (r : Reading) (n : syntax.Count) (l : Line)
      → LineStays n l (in_line (renaming new) path r l)
  value_line_stays path r n l =
      in_line_stays n l (in_content (renaming new) r.body path l.content)
      (content_stays r.body path (n.at + width l.before) l.content)

  own_line_stays : (path : List Part) (r : Reading) (n : syntax.Count) (l : Line)
      → LineStays n l (rename_line new path r l)
  own_line_stays path r n l = by (position (same_path path) (part_paths r l.content))
    where
      by : (o : Option ℕ) → LineStays n l (elim o [
        | None ↦ None
        | Some k ↦
            within (λ c. record l { content = c }) (text_of l.before)
            (text_of l.after ++ text_of (comment_leaves l.comment)) (rename_content new k l.content)
      ])
      by None = tt
      by (Some k) =
          in_line_stays n l (rename_content new k l.content) (own_stays (n.at + width l.before) k l.content)

-- ---- all lines

abbrev page_parts : syntax.Count → Page → List KeyPart
page_parts n b = over_lines (λ c l line_end. line_parts c l) n b.ended b.last

line_long : (l : Line)
    → width (line_leaves l) ≡ width l.before + width (content_leaves l.content)
    + width (l.after ++ comment_leaves l.comment)
line_long l =
    omega (
      arith,
      width-append l.before (content_leaves l.content ++ (l.after ++ comment_leaves l.comment)),
      width-append (content_leaves l.content) (l.after ++ comment_leaves l.comment),
    )

pub ended_long : (e : Ended) → width (ended_leaves e) ≡ length (line_text e.line) + length e.newline.text
ended_long e =
    omega (arith, width-append (line_leaves e.line) (e.newline ∷ []), length-append e.newline.text [])

module _ (from size new : ℕ) where
  line_moves : (n n' : syntax.Count) (end : ℕ) (l : Line) → Moves from size new n.at n'.at end
      → n.at + width (line_leaves l) ≤ end
      → PartsStay from size new (line_parts n l) (line_parts n' l)
  line_moves n n' end l m fits =
      let i : ℕ = n.at + width l.before in
      let i' : ℕ = n'.at + width l.before in
      content_moves from size new i i' end l.content
      (moves_on from size new n.at n'.at end i i' end (width l.before) m refl refl (omega arith))
      (omega (arith, fits, line_long l))

  lines_moves : (n n' : syntax.Count) (es : List Ended) (last : Line) → from + size ≤ n.at
      → n'.at + size ≡ n.at + new
      → (let b : Page = record { ended = es; last = last } in
      PartsStay from size new (page_parts n b) (page_parts n' b))
  lines_moves n n' [] last past by =
      line_moves n n' (n.at + width (line_leaves last)) last (high past by) (omega arith)
  lines_moves n n' (e ∷ es) last past by =
      let b : Page = record { ended = es; last = last } in
      stay_join from size new (line_parts n e.line) (line_parts n' e.line) (page_parts (next_line n e) b)
      (page_parts (next_line n' e) b)
      (line_moves n n' (n.at + width (line_leaves e.line)) e.line (high past by) (omega arith))
      (lines_moves (next_line n e) (next_line n' e) es last (omega (arith, past)) (omega (arith, by)))

lines_stay : (f : Reading → Line → Option (Changed Line))
    → ((r : Reading) (l : Line) → EachIs line_text l (f r l))
    → ((r : Reading) (n : syntax.Count) (l : Line)
    → EachOf (λ c. StaysBy n.at (line_parts n l) (line_parts n c.to) c) (f r l))
    → (r : Reading) (n : syntax.Count) (es : List Ended) (last : Line)
    → EachOf (λ c. StaysBy n.at (page_parts n (record { ended = es; last = last })) (page_parts n c.to) c)
    (in_lines f r es last)
lines_stay f cuts each r n [] last =
    let alone : Line → Page = λ l. record { ended = []; last = l } in
    of_within (λ c. StaysBy n.at (line_parts n last) (line_parts n c.to) c)
    (λ c. StaysBy n.at (line_parts n last) (page_parts n c.to) c) alone [] [] (f r last)
    (λ c h. stays_framed n.at n.at (line_parts n last) (line_parts n c.to) alone [] [] c (omega arith) h)
    (each r n last)
lines_stay f cuts each r n (e ∷ es) last =
    of_or_else (λ c. StaysBy n.at (page_parts n (whole b e.line)) (page_parts n c.to) c) _ _
    (cut_within line_text e.line (λ c. StaysBy n.at (line_parts n e.line) (line_parts n c.to) c)
    (λ c. StaysBy n.at (page_parts n (whole b e.line)) (page_parts n c.to) c) (whole b) [] right (f r e.line) here
    (cuts r e.line) (each r n e.line))
    (of_within (λ c. StaysBy next.at (page_parts next b) (page_parts next c.to) c)
    (λ c. StaysBy n.at (page_parts n (whole b e.line)) (page_parts n c.to) c) (λ y. whole y e.line)
    (text_of (ended_leaves e)) [] (in_lines f (after_line r e.line) es last) later
    (lines_stay f cuts each (after_line r e.line) next es last))
  where
    b : Page
    b = record { ended = es; last = last }

    next : syntax.Count
    next = next_line n e

    with_line : Line → Ended
    with_line l = record { line = l; newline = e.newline }

    whole : Page → Line → Page
    whole y l = record { ended = with_line l ∷ y.ended; last = y.last }

    right : List ℕ
    right = e.newline.text ++ page_text b

    -- the change is in this line
    here : (c : Changed Line) → IsChangeOf line_text e.line c → StaysBy n.at (line_parts n e.line) (line_parts n c.to) c
        → StaysBy n.at (page_parts n (whole b e.line)) (page_parts n (whole b c.to))
        (framed_change (whole b) [] right c)
    here c cut h =
        let from : ℕ = n.at + length c.before in
        let next' : syntax.Count = next_line n (with_line c.to) in
        let long = cut_long line_text e.line c cut in
        let was = ended_long e in
        let is = ended_long (with_line c.to) in
        stay_join from (length c.old) (length c.new) (line_parts n e.line) (line_parts n c.to) (page_parts next b)
        (page_parts next' b) h
        (lines_moves from (length c.old) (length c.new) next next' es last (omega (arith, long.fits, was))
        (omega (arith, long.grown, was, is)))

    -- the change is in a later line
    later : (c : Changed Page) → StaysBy next.at (page_parts next b) (page_parts next c.to) c
        → StaysBy n.at (page_parts n (whole b e.line)) (page_parts n (whole c.to e.line))
        (framed_change (λ y. whole y e.line) (text_of (ended_leaves e)) [] c)
    later c h =
        let left : List ℕ = text_of (ended_leaves e) in
        let from : ℕ = n.at + length (left ++ c.before) in
        stay_join from (length c.old) (length c.new) (line_parts n e.line) (line_parts n e.line) (page_parts next b)
        (page_parts next c.to)
        (line_moves from (length c.old) (length c.new) n n (n.at + width (line_leaves e.line)) e.line
        (low refl (omega (arith, length-append left c.before, ended_long e))) (omega arith))
        (stays_framed next.at n.at (page_parts next b) (page_parts next c.to) (λ y. whole y e.line) left [] c refl h)

-- ---- a document

page_stays : (f : Reading → Line → Option (Changed Line)) (s : Document)
    → ((r : Reading) (l : Line) → EachIs line_text l (f r l))
    → ((r : Reading) (n : syntax.Count) (l : Line)
    → EachOf (λ c. StaysBy n.at (line_parts n l) (line_parts n c.to) c) (f r l))
    → EachOf (λ c. StaysBy 0 (syntax.parts s) (syntax.parts c.to) c) (in_document s (in_lines f start s.ended s.last))
page_stays f s cuts each =
    let n : syntax.Count = first_line s in
    of_within (λ c. StaysBy n.at (syntax.parts s) (page_parts n c.to) c)
    (λ c. StaysBy 0 (syntax.parts s) (syntax.parts c.to) c) (with_page s) (text_of (bom_leaves s.bom)) []
    (in_lines f start s.ended s.last)
    (λ c h. stays_framed n.at 0 (syntax.parts s) (page_parts n c.to) (with_page s) (text_of (bom_leaves s.bom)) [] c
    (omega arith) h)
    (lines_stay f cuts each start n s.ended s.last)

-- after a rename
pub parts_stay : (s : Document) (path : List Part) (text : List ℕ)
    → EachOf (λ (c : Changed Document).
    PartsStay (length c.before) (length c.old) (length c.new) (syntax.parts s) (syntax.parts c.to))
    (change s (rename path text))
parts_stay s path text =
    each_first (change s (rename path text)) (of_or_else (λ c. StaysBy 0 (syntax.parts s) (syntax.parts c.to) c)
    (in_document s (in_lines (rename_line new path) start s.ended s.last)) (nested (renaming new) path s)
    (page_stays (rename_line new path) s (λ r l. rename_line-is new path r l) (λ r n l. own_line_stays new path r n l))
    (page_stays (in_line (renaming new) path) s (λ r l. in_line-is (renaming new) (renaming-is new) path r l)
    (λ r n l. value_line_stays new path r n l)))
  where
    new : Written
    new = key_part text

    each_first : (o : Option (Changed Document))
        → EachOf (λ c. StaysBy 0 (syntax.parts s) (syntax.parts c.to) c) o
        → EachOf (λ (c : Changed Document).
        PartsStay (length c.before) (length c.old) (length c.new) (syntax.parts s) (syntax.parts c.to)) o
    each_first None h = tt
    each_first (Some c) h =
        let same : 0 + length c.before ≡ length c.before = omega arith in
        subst (λ (n : ℕ). PartsStay n (length c.old) (length c.new) (syntax.parts s) (syntax.parts c.to)) same h
