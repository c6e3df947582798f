-- The key parts of a text are in it between characters, each spelled as a key.
--
-- A key part is bare or between marks, so its first and last bytes are ASCII (`key_ends`), and the text may be cut
-- before and after it. One part is thereby readable at its place (`part_readable`). The rest brings this to all parts
-- of a document, where the text of each part is at the place that its number says: keys, entries by induction
-- (`entries_readable`), lines by induction (`lines_readable`). At last a part is taken by its number from the list of
-- all (`all_at`).
--
-- Theorems: `parts_readable`: of a document; `syntax_readable` and `value_syntax_readable`: of what is stored of a
-- text.
use Rattle.std.proofs.Common.{◌≡◌, ℕ, zero, suc, ◌+◌, ◌-◌, ◌<◌, true, IsTrue, List, [], ◌∷◌, ◌++◌, length, get_or, take}
use Rattle.std.proofs.Common.{drop, slice_get, sym, ◌∙◌, ap, subst, arith, append_assoc, Option, Some, None, IsUtf8}
use Rattle.std.proofs.Common.{IsCharBoundary}
use Rattle.std.specs.List.{flat_map, AllByRecursion}
use Rattle.std.proofs.Math.Seq.{get_or-append_seam}
use Rattle.std.proofs.lemmas.Bool.Decides.{nat_tests}
use Rattle.std.proofs.lemmas.List.{length-append, get_or-append-add, get_or_append_left}
use Rattle.std.proofs.lemmas.Str.{IsCharBoundary-before_ascii, IsCharBoundary-after_ascii}
use Rattle.keep_types.specs.declared.leaf.Profile.{Profile}
use Rattle.keep_types.specs.declared.leaf.Profile.TheVariants.{Strict, Wide}
use Rattle.keep_types.specs.declared.leaf.Leaf.{Leaf}
use Rattle.keep_types.specs.declared.leaf.Leaf.TheVariants as leaf
use Rattle.keep_token.specs.Abnf.{Some1, is_bare}
use Rattle.keep_token.specs.Leaves.{IsLeaf, is_key_leaf}
use Rattle.keep_token.specs.Strings as strings
use Rattle.keep_token.proofs.Shared.{all_pass, leaf_wider}
use Rattle.keep_types.specs.declared.syntax.KeyPart.{KeyPart}
use Rattle.keep_syntax.specs.Tree.{Written, Gap, Further, Key, Name, Entries, none, entry, Value, Content, blank}
use Rattle.keep_syntax.specs.Tree.{keyval, header, element, Line, Ended, Document, token, further_leaves, key_leaves}
use Rattle.keep_syntax.specs.Tree.{name_leaves, named_leaves, opening, closing, comma_leaves, entries_leaves}
use Rattle.keep_syntax.specs.Tree.{value_leaves, content_leaves, line_leaves, text_of, text, value_text}
use Rattle.keep_syntax.specs.Grammar.{IsKeyPart, IsFurther, IsKey, IsName, Place, in_scalar, in_array, in_inline}
use Rattle.keep_syntax.specs.Grammar.{place_in, IsNamed, AreEntries, IsValue, IsContent, IsLine, IsEnded, IsDocument}
use Rattle.keep_syntax.specs.declared.syntax.Syntax.{Syntax}
use Rattle.keep_syntax.specs.declared.alone.ValueSyntax.{ValueSyntax}
use Rattle.keep_syntax.specs.Contract.{parts_of, IsSyntaxOf, value_parts_of, IsValueSyntaxOf, parts_alone}
use Rattle.keep_syntax.specs.Numbered.{width, part_at, further_parts, key_parts, named_parts, value_start, nested_start}
use Rattle.keep_syntax.specs.Numbered.{entry_end, entries_parts, Count, content_start, content_parts, line_parts}
use Rattle.keep_syntax.specs.Numbered.{next_line, first_line, over_lines, parts}
use Rattle.keep_meaning.specs.KeyText.{IsKeyAt}
use Rattle.keep_meaning.proofs.KeyPartLemmas.{IsPart, part_whole, part_left, part_right, part_ends, part_taken, Spelled}
use Rattle.keep_meaning.proofs.KeyPartLemmas.{spelled_left, spelled_right}
use Rattle.keep_meaning.proofs.LinePlaceLemmas.{head_spelled, content_spelled, LinesSpelled, line_spelled, next_spelled}
use Rattle.keep_meaning.proofs.LinePlaceLemmas.{lines_spelled}

-- ---- a key part begins and ends in ASCII

pub record HasAsciiEnds (text : List ℕ) : Type 0 where
  pub some : 0 < length text
  pub first : get_or text 0 0 < 128
  pub last : get_or text (length text - 1) 0 < 128

after_prefix : (prefix : List ℕ) (c n : ℕ) → n ≡ length prefix → get_or (prefix ++ (c ∷ [])) n 0 ≡ c
after_prefix prefix c n e = ap (λ i. get_or (prefix ++ (c ∷ [])) i 0) e ∙ get_or-append_seam prefix c [] 0

quoted_ends : (mark : ℕ) (body text : List ℕ) → mark < 128 → text ≡ mark ∷ body ++ (mark ∷ []) → HasAsciiEnds text
quoted_ends mark body text low e =
    let many : length text ≡ length body + 2 = omega (arith, ap length e, length-append body (mark ∷ [])) in
    let last : get_or text (length text - 1) 0 ≡ mark =
    ap (λ t. get_or t (length text - 1) 0) e
    ∙ after_prefix (mark ∷ body) mark (length text - 1) (omega (arith, many)) in
    record {
      some = omega (arith, many);
      first = subst (λ t. get_or t 0 0 < 128) (sym e) low;
      last = omega (arith, last);
    }

bare_low : (c : ℕ) → is_bare c ≡ true → c < 128
bare_low c h = grind (arith, nat_tests)

bare_ends : (text : List ℕ) → Some1 is_bare text → HasAsciiEnds text
bare_ends text h = record {
  some = h.0;
  first = bare_low (get_or text 0 0) (all_pass is_bare text 0 h.1 h.0);
  last = bare_low (get_or text (length text - 1) 0) (all_pass is_bare text (length text - 1) h.1 (omega (arith, h.0)));
}

key_ends : (profile : Profile) (l : Leaf) (text : List ℕ) → IsTrue (is_key_leaf l) → IsLeaf profile l text
    → HasAsciiEnds text
key_ends profile leaf.BareKey text kind h = bare_ends text h
key_ends profile leaf.Basic text kind h = quoted_ends 0x22 (strings.text_of h.0) text (omega arith) h.1.spelled
key_ends profile leaf.Literal text kind h = quoted_ends 0x27 (strings.text_of h.0) text (omega arith) h.1.spelled
key_ends profile _ text kind h = absurd cc

-- ---- where it is

-- a byte of a part of a text
part_byte : (bytes : List ℕ) (at : ℕ) (t : List ℕ) (i : ℕ) → IsPart bytes at t → i < length t
    → get_or bytes (at + i) 0 ≡ get_or t i 0
part_byte bytes at t i h lt =
    let from : at + i ≡ length h.prefix + i = ap (λ n. n + i) (sym h.place) in
    ap (λ n. get_or bytes n 0) from ∙ ap (λ b. get_or b (length h.prefix + i) 0) h.whole
    ∙ get_or-append-add h.prefix (t ++ h.after) i 0 ∙ get_or_append_left t h.after 0 i lt

starts_between : (bytes : List ℕ) (at : ℕ) (t : List ℕ) → IsPart bytes at t → HasAsciiEnds t → IsCharBoundary bytes at
starts_between bytes at t there ends =
    let byte : get_or bytes (at + 0) 0 ≡ get_or t 0 0 = part_byte bytes at t 0 there ends.some in
    let same : get_or bytes at 0 ≡ get_or bytes (at + 0) 0 = ap (λ n. get_or bytes n 0) (omega arith) in
    IsCharBoundary-before_ascii bytes at (omega (arith, part_ends bytes at t there, ends.some))
    (omega (arith, same, byte, ends.first))

ends_between : (bytes : List ℕ) (at : ℕ) (t : List ℕ) → IsUtf8 bytes → IsPart bytes at t → HasAsciiEnds t
    → IsCharBoundary bytes (at + length t)
ends_between bytes at t utf8 there ends =
    let last : ℕ = length t - 1 in
    let byte : get_or bytes (at + last) 0 ≡ get_or t last 0 =
    part_byte bytes at t last there (omega (arith, ends.some)) in
    let next : at + last + 1 ≡ at + length t = omega (arith, ends.some) in
    subst (IsCharBoundary bytes) next
    (IsCharBoundary-after_ascii bytes (at + last) utf8 (omega (arith, part_ends bytes at t there, ends.some))
    (omega (arith, byte, ends.last)))

wider : (profile : Profile) (l : Leaf) (text : List ℕ) → IsLeaf profile l text → IsLeaf Wide l text
wider Strict l text h = leaf_wider l text h
wider Wide l text h = h

pub part_readable : (bytes : List ℕ) (profile : Profile) (at : ℕ) (w : Written) → IsUtf8 bytes → IsKeyPart profile w
    → IsPart bytes at w.text → IsKeyAt bytes (part_at at w)
part_readable bytes profile at w utf8 is there =
    let ends : HasAsciiEnds w.text = key_ends profile w.leaf w.text is.0 is.1 in
    let taken : take (at + length w.text - at) (drop at bytes) ≡ w.text =
    part_taken bytes at (at + length w.text - at) w.text there (omega arith) in
    record {
      start = starts_between bytes at w.text there ends;
      end = ends_between bytes at w.text utf8 there ends;
      forward = omega arith;
      key = is.0;
      spelled = subst (λ (t : List ℕ). IsLeaf Wide w.leaf t) (sym taken) (wider profile w.leaf w.text is.1);
    }

-- ---- keys

pub all-append : {A : Type 0} (P : A → Type 0) (xs ys : List A) → AllByRecursion P xs → AllByRecursion P ys
    → AllByRecursion P (xs ++ ys)
all-append P [] ys h g = g
all-append P (x ∷ xs) ys h g = (h.0, all-append P xs ys h.1 g)

module _ (bytes : List ℕ) (utf8 : IsUtf8 bytes) (profile : Profile) where
  abbrev Readable : List KeyPart → Type 0
  Readable ps = AllByRecursion (IsKeyAt bytes) ps

  further_readable : (at : ℕ) (fs : List Further) → AllByRecursion (IsFurther profile) fs
      → Spelled bytes at (flat_map further_leaves fs) → Readable (further_parts at fs)
  further_readable at [] are h = tt
  further_readable at (f ∷ fs) are h =
      let more : List Written = flat_map further_leaves fs in
      let dot : List Written = token leaf.Dot (0x2E ∷ []) in
      let from : ℕ = at + width f.before + 1 + width f.after in
      let split : further_leaves f ++ more ≡ f.before ++ (dot ++ (f.after ++ (f.part ∷ more))) = simp append_assoc in
      let text : Spelled bytes at (f.before ++ (dot ++ (f.after ++ (f.part ∷ more)))) =
      subst (Spelled bytes at) split h in
      let a : Spelled bytes (at + width f.before) (dot ++ (f.after ++ (f.part ∷ more))) =
      spelled_right bytes at f.before (dot ++ (f.after ++ (f.part ∷ more))) text in
      let b : Spelled bytes (at + width f.before + 1) (f.after ++ (f.part ∷ more)) =
      spelled_right bytes (at + width f.before) dot (f.after ++ (f.part ∷ more)) a in
      let c : Spelled bytes from (f.part ∷ more) =
      spelled_right bytes (at + width f.before + 1) f.after (f.part ∷ more) b in (
        part_readable bytes profile from f.part utf8 are.0.part (part_left bytes from f.part.text (text_of more) c),
        further_readable (from + length f.part.text) fs are.1 (part_right bytes from f.part.text (text_of more) c),
      )

  key_readable : (at : ℕ) (k : Key) → IsKey profile k → Spelled bytes at (key_leaves k) → Readable (key_parts at k)
  key_readable at k is h =
      let more : List Written = flat_map further_leaves k.more in (
        part_readable bytes profile at k.first utf8 is.first (part_left bytes at k.first.text (text_of more) h),
        further_readable (at + length k.first.text) k.more is.more (part_right bytes at k.first.text (text_of more) h),
      )

  name_readable : (at : ℕ) (n : Name) → IsName profile n → Spelled bytes at (name_leaves n)
      → Readable (key_parts at n.key)
  name_readable at n is h =
      key_readable at n.key is.key (spelled_left bytes at (key_leaves n.key)
      (n.before ++ (token leaf.Equals (0x3D ∷ []) ++ n.after)) h)

  named_readable : (place : Place) (at : ℕ) (name : Option Name) → IsNamed profile place name
      → Spelled bytes at (named_leaves name) → Readable (named_parts at name)
  named_readable place at None is h = tt
  named_readable in_scalar at (Some n) is h = absurd is
  named_readable in_array at (Some n) is h = absurd is
  named_readable in_inline at (Some n) is h = name_readable at n is h

  -- ---- entries

  entries_readable : (place : Place) (at : ℕ) (es : Entries) → AreEntries profile place es
      → Spelled bytes at (entries_leaves es) → Readable (entries_parts at es)
  entries_readable place at none are h = tt
  entries_readable place at (entry name body nested after comma rest) are h =
      let further : List Written = entries_leaves rest in
      let ended : List Written = comma_leaves comma ++ further in
      let closed : List Written = closing body ++ (after ++ ended) in
      let opened : List Written = opening body ++ (entries_leaves nested ++ closed) in
      let from : ℕ = value_start at name in
      let within : ℕ = nested_start from body in
      let suffix : ℕ = within + width (entries_leaves nested) in
      let past : ℕ = suffix + width (closing body) in
      let a : Spelled bytes from opened = spelled_right bytes at (named_leaves name) opened h in
      let b : Spelled bytes within (entries_leaves nested ++ closed) =
      spelled_right bytes from (opening body) (entries_leaves nested ++ closed) a in
      let c : Spelled bytes suffix closed = spelled_right bytes within (entries_leaves nested) closed b in
      let d : Spelled bytes past (after ++ ended) = spelled_right bytes suffix (closing body) (after ++ ended) c in
      let e : Spelled bytes (past + width after) ended = spelled_right bytes past after ended d in
      let f : Spelled bytes (entry_end at name body nested after comma) further =
      spelled_right bytes (past + width after) (comma_leaves comma) further e in
      let inner : List KeyPart = entries_parts within nested in
      let outer : List KeyPart = entries_parts (entry_end at name body nested after comma) rest in
      all-append (IsKeyAt bytes) (named_parts at name) (inner ++ outer)
      (named_readable place at name are.0 (spelled_left bytes at (named_leaves name) opened h))
      (all-append (IsKeyAt bytes) inner outer
      (entries_readable (place_in body) within nested are.2
      (spelled_left bytes within (entries_leaves nested) closed b))
      (entries_readable place (entry_end at name body nested after comma) rest are.5 f))

  value_readable : (at : ℕ) (v : Value) → IsValue profile v → Spelled bytes at (value_leaves v)
      → Readable (entries_parts (nested_start at v.body) v.nested)
  value_readable at v is h =
      let closed : List Written = entries_leaves v.nested ++ closing v.body in
      entries_readable (place_in v.body) (nested_start at v.body) v.nested is.nested
      (spelled_left bytes (nested_start at v.body) (entries_leaves v.nested) (closing v.body)
      (spelled_right bytes at (opening v.body) closed h))

  -- ---- lines

  head_readable : (at : ℕ) (first last : Written) (before : Gap) (key : Key) (suffix : Gap) → IsKey profile key
      → Spelled bytes at (first ∷ before ++ (key_leaves key ++ (suffix ++ (last ∷ []))))
      → Readable (key_parts (at + length first.text + width before) key)
  head_readable at first last before key suffix is h =
      key_readable (at + length first.text + width before) key is (head_spelled bytes at first last before key suffix h)

  content_readable : (at : ℕ) (c : Content) → IsContent profile c → Spelled bytes at (content_leaves c)
      → Readable (content_parts at c)
  content_readable at blank is h = tt
  content_readable at (keyval name v) is h =
      let from : ℕ = at + width (name_leaves name) in
      all-append (IsKeyAt bytes) (key_parts at name.key) (entries_parts (nested_start from v.body) v.nested)
      (name_readable at name is.0 (spelled_left bytes at (name_leaves name) (value_leaves v) h))
      (value_readable from v is.1 (spelled_right bytes at (name_leaves name) (value_leaves v) h))
  content_readable at (header before key suffix) is h =
      head_readable at (record { leaf = leaf.HeadOpen; text = 0x5B ∷ [] })
      (record { leaf = leaf.HeadClose; text = 0x5D ∷ [] }) before key suffix is.1 h
  content_readable at (element before key suffix) is h =
      head_readable at (record { leaf = leaf.ElemOpen; text = 0x5B ∷ 0x5B ∷ [] })
      (record { leaf = leaf.ElemClose; text = 0x5D ∷ 0x5D ∷ [] }) before key suffix is.1 h

  line_readable : (c : Count) (l : Line) → IsLine profile l → Spelled bytes c.at (line_leaves l)
      → Readable (line_parts c l)
  line_readable c l is h = content_readable (content_start c l) l.content is.content (content_spelled bytes c l h)

  lines_readable : (c : Count) (es : List Ended) (last : Line) → AllByRecursion (IsEnded profile) es
      → IsLine profile last → LinesSpelled bytes c.at es last
      → Readable (over_lines (λ c l line_end. line_parts c l) c es last)
  lines_readable c [] last are is h = line_readable c last is h
  lines_readable c (e ∷ es) last are is h =
      all-append (IsKeyAt bytes) (line_parts c e.line)
      (over_lines (λ c l line_end. line_parts c l) (next_line c e) es last)
      (line_readable c e.line are.0.line (line_spelled bytes c e es last h))
      (lines_readable (next_line c e) es last are.1 is (next_spelled bytes c e es last h))

-- ---- whole texts

pub all_at : {A : Type 0} (P : A → Type 0) (xs : List A) (n : ℕ) (x : A) → AllByRecursion P xs → slice_get xs n ≡ Some x
    → P x
all_at P [] n x h e = absurd cc
all_at {A} P (y ∷ ys) zero x h e = subst P (let same : y ≡ x = cc in same) h.0
all_at P (y ∷ ys) (suc n) x h e = all_at P ys n x h.1 e

-- the key parts of a document
pub parts_readable : (bytes : List ℕ) (profile : Profile) (d : Document) → IsUtf8 bytes → IsDocument profile d
    → bytes ≡ text d → (n : ℕ) (p : KeyPart) → slice_get (parts d) n ≡ Some p → IsKeyAt bytes p
parts_readable bytes profile d utf8 is e n p at =
    all_at (IsKeyAt bytes) (parts d) n p
    (lines_readable bytes utf8 profile (first_line d) d.ended d.last is.ended is.last (lines_spelled bytes d e)) at

-- those of a value alone
pub alone_readable : (bytes : List ℕ) (profile : Profile) (v : Value) → IsUtf8 bytes → IsValue profile v
    → bytes ≡ value_text v → (n : ℕ) (p : KeyPart) → slice_get (parts_alone v) n ≡ Some p → IsKeyAt bytes p
alone_readable bytes profile v utf8 is e n p at =
    all_at (IsKeyAt bytes) (parts_alone v) n p
    (value_readable bytes utf8 profile 0 v is (subst (λ (t : List ℕ). IsPart bytes 0 t) e (part_whole bytes))) at

-- ---- as they were read

pub syntax_readable : (s : Syntax) (bytes : List ℕ) (profile : Profile) (d : Document) → IsUtf8 bytes
    → IsDocument profile d → bytes ≡ text d → IsSyntaxOf s d
    → (n : ℕ) (p : KeyPart) → slice_get (parts_of s) n ≡ Some p → IsKeyAt bytes p
syntax_readable s bytes profile d utf8 is e of n p at =
    parts_readable bytes profile d utf8 is e n p (ap (λ ps. slice_get ps n) (sym of.parts) ∙ at)

pub value_syntax_readable : (s : ValueSyntax) (bytes : List ℕ) (profile : Profile) (v : Value) → IsUtf8 bytes
    → IsValue profile v → bytes ≡ value_text v → IsValueSyntaxOf s v
    → (n : ℕ) (p : KeyPart) → slice_get (value_parts_of s) n ≡ Some p → IsKeyAt bytes p
value_syntax_readable s bytes profile v utf8 is e of n p at =
    alone_readable bytes profile v utf8 is e n p (ap (λ ps. slice_get ps n) (sym of.parts) ∙ at)
