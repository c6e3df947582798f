-- No leaf but End is empty, so there are at most as many tokens as bytes, and End. And each begins a character.
--
-- Each part of a document is gone through, from gaps and key parts up to lines, and each token in it has bytes, of
-- which the first is ASCII; the byte order mark alone begins with another first byte of a character (`AreSome`). What a
-- part begins with is known from how it is read: a key part (`part_some`), a scalar (`body_some`), a gap (`gap_some`).
-- Entries are an induction over the tree (`entries_some`), and lines one over the list (`ended_some`). A list of tokens
-- that all have bytes is no longer than its text (`some_count`).
--
-- Theorems: `document_some`: every token but the last has bytes and begins a character; `leaves_count`: the number of
-- tokens.
use Rattle.std.proofs.Common.{◌≡◌, ℕ, ◌+◌, ◌<◌, ◌≤◌, Bool, true, false, List, [], ◌∷◌, ◌++◌, length, Option, Some, None}
use Rattle.std.proofs.Common.{refl, sym, ap, subst, ◌∙◌, arith, append_assoc, inl, inr}
use Rattle.std.specs.Prelude.{IsTrue}
use Rattle.std.specs.List.{flat_map, list_all, AllByRecursion}
use Rattle.std.proofs.lemmas.Bool.{and_parts}
use Rattle.std.proofs.lemmas.Bool.Decides.{nat_tests}
use Rattle.std.proofs.lemmas.List.{length-append}
use Rattle.keep_types.specs.declared.leaf.Profile.{Profile}
use Rattle.keep_types.specs.declared.leaf.Profile.TheVariants.{Strict}
use Rattle.keep_types.specs.declared.leaf.Leaf.{Leaf}
use Rattle.keep_types.specs.declared.leaf.Leaf.TheVariants as leaf
use Rattle.keep_token.specs.Abnf.{is_ws}
use Rattle.keep_token.specs.Leaves.{IsLeaf, is_gap_leaf}
use Rattle.keep_token.specs.Scanning.{first}
use Rattle.keep_syntax.specs.declared.info.Brackets.{Brackets}
use Rattle.keep_syntax.specs.declared.info.Brackets.TheVariants as brackets
use Rattle.keep_syntax.specs.Tree.{Written, Gap, Further, Key, Name, Body, scalar, array, inline, Entries, none, entry}
use Rattle.keep_syntax.specs.Tree.{Value, Content, blank, keyval, header, element, Line, Ended, Document, text_of}
use Rattle.keep_syntax.specs.Tree.{token, further_leaves, key_leaves, name_leaves, named_leaves, opening, closing}
use Rattle.keep_syntax.specs.Tree.{comma_leaves, entries_leaves, value_leaves, content_leaves, comment_leaves}
use Rattle.keep_syntax.specs.Tree.{line_leaves, ended_leaves, bom_leaves, leaves}
use Rattle.keep_syntax.specs.Grammar.{IsSpace, IsBlank, IsKeyPart, IsFurther, IsKey, IsName, place_in, IsNamed, IsBody}
use Rattle.keep_syntax.specs.Grammar.{AreEntries, IsValue, IsContent, IsAfter, IsComment, IsLine, IsEnded, IsDocument}
use Rattle.keep_syntax.specs.Grammar.{Reads}
use Rattle.keep_syntax.specs.Numbered.{width, token_places}
use Rattle.keep_syntax.specs.Reading.{Item}
use Rattle.keep_syntax.proofs.SpaceLaws.{text_of-append, place_of, gap_blank, space_blank}
use Rattle.keep_syntax.proofs.KeyLaws.{is_key_first, part_begins}
use Rattle.keep_syntax.proofs.ValueLaws.{is_scalar_first, item_leaves, entry_leaves}
use Rattle.keep_syntax.proofs.AgainLaws.{scalar_begins}
use Rattle.keep_syntax.proofs.DeepLaws.{comma_blank}
use Rattle.keep_syntax.proofs.DocumentLaws.{lines_leaves}

-- the leaf is not empty, and its first byte begins a character
abbrev pub BeginsChar : Written → Type 0
BeginsChar w = (0 < length w.text) × (128 ≤ first w.text → 192 ≤ first w.text)

abbrev pub AreSome : List Written → Type 0
AreSome ws = AllByRecursion BeginsChar ws

pub some-append : (a b : List Written) → AreSome a → AreSome b → AreSome (a ++ b)
some-append [] b h g = g
some-append (w ∷ ws) b h g = (h.0, some-append ws b h.1 g)

-- it begins with a byte of ASCII
low_some : (w : Written) (c : ℕ) (cs : List ℕ) → w.text ≡ c ∷ cs → c < 128 → BeginsChar w
low_some w c cs e h = (omega (arith, ap length e), λ k. absurd (omega (arith, k, h, ap first e)))

sign_some : (l : Leaf) (c : ℕ) (cs : List ℕ) → c < 128 → AreSome (token l (c ∷ cs))
sign_some l c cs h = (low_some (record { leaf = l; text = c ∷ cs }) c cs refl h, tt)

-- the first byte of a text that is not empty is one of these
tested_some : (is : ℕ → Bool) → ((c : ℕ) → is c ≡ true → c < 128) → (w : Written) → 0 < length w.text
    → is (first (w.text ++ [])) ≡ true → BeginsChar w
tested_some is low w some h = by w.text refl some h
  where
    by : (t : List ℕ) → w.text ≡ t → 0 < length t → is (first (t ++ [])) ≡ true → BeginsChar w
    by [] e k g = absurd (omega (arith, k))
    by (c ∷ cs) e k g = low_some w c cs e (low c g)

key_low : (c : ℕ) → is_key_first c ≡ true → c < 128
key_low c h = grind (arith, nat_tests)

scalar_low : (c : ℕ) → is_scalar_first c ≡ true → c < 128
scalar_low c h = grind (arith, nat_tests)

ws_low : (c : ℕ) → is_ws c ≡ true → c < 128
ws_low c h = grind (arith, nat_tests)

ws_some : (w : Written) → 0 < length w.text → IsTrue (list_all is_ws w.text) → BeginsChar w
ws_some w some all = by w.text refl some all
  where
    by : (t : List ℕ) → w.text ≡ t → 0 < length t → IsTrue (list_all is_ws t) → BeginsChar w
    by [] e k g = absurd (omega (arith, k))
    by (c ∷ cs) e k g = low_some w c cs e (ws_low c (and_parts (is_ws c) (list_all is_ws cs) g).0)

gap_some : (w : Written) (l : Leaf) → w.leaf ≡ l → IsTrue (is_gap_leaf l) → IsLeaf Strict l w.text → BeginsChar w
gap_some w leaf.Ws is k i = ws_some w i.0 i.1
gap_some w leaf.Newline is k (inl e) = low_some w 0x0A [] e (omega arith)
gap_some w leaf.Newline is k (inr e) = low_some w 0x0D (0x0A ∷ []) e (omega arith)
gap_some w leaf.Comment is k (a, b, spelled, hash, all) =
    low_some w 0x23 b (spelled ∙ ap (λ (t : List ℕ). t ++ b) hash) (omega arith)
gap_some w _ is k i = absurd cc

-- as many leaves as bytes, or fewer
pub some_count : (ws : List Written) → AreSome ws → length ws ≤ width ws
some_count [] h = omega arith
some_count (w ∷ ws) h = omega (arith, h.0.0, some_count ws h.1, length-append w.text (text_of ws))

-- ---- each part

blank_some : (g : Gap) → IsBlank g → AreSome g
blank_some [] h = tt
blank_some (w ∷ more) h = (gap_some w w.leaf refl h.0 h.1, blank_some more h.3)

space_some : (g : Gap) → IsSpace g → AreSome g
space_some g h = blank_some g (space_blank g h)

part_some : (profile : Profile) (w : Written) → IsKeyPart profile w → AreSome (w ∷ [])
part_some profile w h =
    let begins = part_begins profile w [] h in (tested_some is_key_first key_low w begins.0 begins.1, tt)

further_some : (profile : Profile) (f : Further) → IsFurther profile f → AreSome (further_leaves f)
further_some profile f h =
    let dot = token leaf.Dot (0x2E ∷ []) in
    some-append f.before (dot ++ (f.after ++ (f.part ∷ []))) (space_some f.before h.before)
    (some-append dot (f.after ++ (f.part ∷ [])) (sign_some leaf.Dot 0x2E [] (omega arith))
    (some-append f.after (f.part ∷ []) (space_some f.after h.after) (part_some profile f.part h.part)))

more_some : (profile : Profile) (fs : List Further) → AllByRecursion (IsFurther profile) fs
    → AreSome (flat_map further_leaves fs)
more_some profile [] h = tt
more_some profile (f ∷ fs) h =
    some-append (further_leaves f) (flat_map further_leaves fs) (further_some profile f h.0) (more_some profile fs h.1)

key_some : (profile : Profile) (k : Key) → IsKey profile k → AreSome (key_leaves k)
key_some profile k h =
    some-append (k.first ∷ []) (flat_map further_leaves k.more) (part_some profile k.first h.first)
    (more_some profile k.more h.more)

name_some : (profile : Profile) (n : Name) → IsName profile n → AreSome (name_leaves n)
name_some profile n h =
    let equals = token leaf.Equals (0x3D ∷ []) in
    some-append (key_leaves n.key) (n.before ++ (equals ++ n.after)) (key_some profile n.key h.key)
    (some-append n.before (equals ++ n.after) (space_some n.before h.before)
    (some-append equals n.after (sign_some leaf.Equals 0x3D [] (omega arith)) (space_some n.after h.after)))

named_some : (profile : Profile) (b : Brackets) (n : Option Name) → IsNamed profile (place_of b) n
    → AreSome (named_leaves n)
named_some profile b None h = tt
named_some profile brackets.Array (Some n) h = absurd h
named_some profile brackets.Inline (Some n) h = name_some profile n h

comma_some : (comma : Option Gap) → ((g : Gap) → comma ≡ Some g → IsBlank g) → AreSome (comma_leaves comma)
comma_some None h = tt
comma_some (Some g) h =
    some-append (token leaf.Comma (0x2C ∷ [])) g (sign_some leaf.Comma 0x2C [] (omega arith)) (blank_some g (h g refl))

body_some : (profile : Profile) (body : Body) (nested : Entries) → IsBody profile body
    → AreEntries profile (place_in body) nested
    → ((b : Brackets) → AreEntries profile (place_of b) nested → AreSome (entries_leaves nested))
    → AreSome (value_leaves (record { body = body; nested = nested }))
body_some profile (scalar w) none h i ih =
    let begins = scalar_begins profile w [] h in (tested_some is_scalar_first scalar_low w begins.0 begins.1, tt)
body_some profile (scalar w) (entry name body nested after comma rest) h i ih = absurd i.0
body_some profile (array g) nested h i ih =
    some-append (opening (array g)) (entries_leaves nested ++ closing (array g))
    ((sign_some leaf.ArrayOpen 0x5B [] (omega arith)).0, blank_some g (gap_blank profile brackets.Array g h))
    (some-append (entries_leaves nested) (closing (array g)) (ih brackets.Array i)
    (sign_some leaf.ArrayClose 0x5D [] (omega arith)))
body_some profile (inline g) nested h i ih =
    some-append (opening (inline g)) (entries_leaves nested ++ closing (inline g))
    ((sign_some leaf.InlineOpen 0x7B [] (omega arith)).0, blank_some g (gap_blank profile brackets.Inline g h))
    (some-append (entries_leaves nested) (closing (inline g)) (ih brackets.Inline i)
    (sign_some leaf.InlineClose 0x7D [] (omega arith)))

entries_some : (profile : Profile) (es : Entries) (b : Brackets) → AreEntries profile (place_of b) es
    → AreSome (entries_leaves es)
entries_some profile none b h = tt
entries_some profile (entry name body nested after comma rest) b h =
    let i : Item =
    record { name = name; value = record { body = body; nested = nested }; after = after; comma = comma } in
    let v = value_leaves i.value in
    subst (λ (ws : List Written). AreSome ws) (sym (entry_leaves i rest))
    (some-append (item_leaves i) (entries_leaves rest)
    (some-append (named_leaves name) (v ++ (after ++ comma_leaves comma)) (named_some profile b name h.0)
    (some-append v (after ++ comma_leaves comma)
    (body_some profile body nested h.1 h.2 (λ c k. entries_some profile nested c k))
    (some-append after (comma_leaves comma) (blank_some after (gap_blank profile b after h.3))
    (comma_some comma (comma_blank profile b comma rest h.4)))))
    (entries_some profile rest b h.5))

pub value_some : (profile : Profile) (v : Value) → IsValue profile v → AreSome (value_leaves v)
value_some profile v h = body_some profile v.body v.nested h.body h.nested (λ b k. entries_some profile v.nested b k)

header_some : (profile : Profile) (l m : Leaf) (s t : List ℕ) (before : Gap) (k : Key) (after : Gap)
    → AreSome (token l s) → AreSome (token m t) → IsContent profile (header before k after)
    → AreSome (token l s ++ (before ++ (key_leaves k ++ (after ++ token m t))))
header_some profile l m s t before k after e f h =
    some-append (token l s) (before ++ (key_leaves k ++ (after ++ token m t))) e
    (some-append before (key_leaves k ++ (after ++ token m t)) (space_some before h.0)
    (some-append (key_leaves k) (after ++ token m t) (key_some profile k h.1)
    (some-append after (token m t) (space_some after h.2) f)))

content_some : (profile : Profile) (c : Content) → IsContent profile c → AreSome (content_leaves c)
content_some profile blank h = tt
content_some profile (keyval n v) h =
    some-append (name_leaves n) (value_leaves v) (name_some profile n h.0) (value_some profile v h.1)
content_some profile (header before k after) h =
    header_some profile leaf.HeadOpen leaf.HeadClose (0x5B ∷ []) (0x5D ∷ []) before k after
    (sign_some leaf.HeadOpen 0x5B [] (omega arith)) (sign_some leaf.HeadClose 0x5D [] (omega arith)) h
content_some profile (element before k after) h =
    header_some profile leaf.ElemOpen leaf.ElemClose (0x5B ∷ 0x5B ∷ []) (0x5D ∷ 0x5D ∷ []) before k after
    (sign_some leaf.ElemOpen 0x5B (0x5B ∷ []) (omega arith)) (sign_some leaf.ElemClose 0x5D (0x5D ∷ []) (omega arith)) h

after_some : (c : Content) (g : Gap) → IsAfter c g → AreSome g
after_some blank g h = subst (λ (ws : List Written). AreSome ws) (sym h) tt
after_some (keyval n v) g h = space_some g h
after_some (header before k after) g h = space_some g h
after_some (element before k after) g h = space_some g h

comment_some : (o : Option Written) → IsComment o → AreSome (comment_leaves o)
comment_some None h = tt
comment_some (Some w) h = (gap_some w leaf.Comment h.0 refl h.1, tt)

line_some : (profile : Profile) (l : Line) → IsLine profile l → AreSome (line_leaves l)
line_some profile l h =
    some-append l.before (content_leaves l.content ++ (l.after ++ comment_leaves l.comment))
    (space_some l.before h.before)
    (some-append (content_leaves l.content) (l.after ++ comment_leaves l.comment)
    (content_some profile l.content h.content)
    (some-append l.after (comment_leaves l.comment) (after_some l.content l.after h.after)
    (comment_some l.comment h.comment)))

ended_some : (profile : Profile) (es : List Ended) → AllByRecursion (IsEnded profile) es
    → AreSome (flat_map ended_leaves es)
ended_some profile [] h = tt
ended_some profile (e ∷ es) h =
    some-append (ended_leaves e) (flat_map ended_leaves es)
    (some-append (line_leaves e.line) (e.newline ∷ []) (line_some profile e.line h.0.line)
    (gap_some e.newline leaf.Newline h.0.kind refl h.0.newline, tt)) (ended_some profile es h.1)

bom_some : (s : Document) → AreSome (bom_leaves s.bom)
bom_some s = by s.bom
  where
    by : (b : Bool) → AreSome (bom_leaves b)
    by true = ((omega arith, λ k. omega arith), tt)
    by false = tt

-- all leaves but End
abbrev pub inner_leaves : Document → List Written
inner_leaves s = bom_leaves s.bom ++ lines_leaves s.ended s.last

pub leaves_end : (s : Document) → leaves s ≡ inner_leaves s ++ token leaf.End []
leaves_end s = simp append_assoc

-- No leaf of a document but End is empty, and each begins a character.
pub document_some : (profile : Profile) (s : Document) → IsDocument profile s → AreSome (inner_leaves s)
document_some profile s h =
    some-append (bom_leaves s.bom) (lines_leaves s.ended s.last) (bom_some s)
    (some-append (flat_map ended_leaves s.ended) (line_leaves s.last) (ended_some profile s.ended h.ended)
    (line_some profile s.last h.last))

-- There are at most as many leaves as bytes, and End.
pub leaves_count : (profile : Profile) (limit : ℕ) (bytes : List ℕ) (s : Document) → Reads profile limit bytes s
    → length (leaves s) ≤ length bytes + 1
leaves_count profile limit bytes s h =
    let end = token leaf.End [] in
    omega (
      arith,
      some_count (inner_leaves s) (document_some profile s h.valid),
      ap length (leaves_end s),
      length-append (inner_leaves s) end,
      ap length h.spelled,
      ap width (leaves_end s),
      ap length (text_of-append (inner_leaves s) end),
      length-append (text_of (inner_leaves s)) (text_of end),
    )

-- as many tokens as leaves
pub tokens_count : (at : ℕ) (ws : List Written) → length (token_places at ws) ≡ length ws
tokens_count at [] = refl
tokens_count at (w ∷ ws) = omega (arith, tokens_count (at + length w.text) ws)
