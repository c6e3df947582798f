-- What the code stores of the content of a line: a keyval or a header.
--
-- The first two bytes decide which content it is, so there the reading function `content_at` is that of a keyval, of a
-- header or of the header of an element (`keyval_content`, `header_content`, `element_content`). A fault of a part is
-- the content's fault (`keyval_fails_name`, `keyval_fails_value`, `header_fails`, `element_fails`), and so is a missing
-- bracket (`header_bad`, `element_bad`). Where all parts are read, their growths are joined (`grows_then`) into that of
-- the content (`content_taken`). The code subtracts two counts to know how many key parts the content has. The
-- difference is how many the key has, since the list of key parts grew by those (`length-key`, `name_grown`,
-- `key_grown`).
--
-- Theorems: `keyval_is`, `header_is` and `element_is`: a content that is read, what is stored of it, and its head.
use Rattle.std.proofs.Common.{◌≡◌, ℕ, suc, ◌+◌, ◌-◌, false, ◌==◌, ◌&&◌, List, [], ◌∷◌, ◌++◌, length, get_or}
use Rattle.std.proofs.Common.{get_or-drop, drop, Some, None, Ok, refl, sym, ap, ◌∙◌, arith, append_assoc}
use Rattle.std.proofs.lemmas.List.{append-nil}
use Rattle.keep_types.specs.declared.leaf.Leaf.{Leaf}
use Rattle.keep_types.specs.declared.leaf.Leaf.TheVariants as leaf
use Rattle.keep_types.specs.declared.leaf.Profile.{Profile}
use Rattle.keep_syntax.specs.declared.fault.ReadFault.{ReadFault}
use Rattle.keep_types.specs.declared.syntax.Start.{Start}
use Rattle.keep_types.specs.declared.syntax.StatementKind.TheVariants.{KeyVal, Header, Element}
use Rattle.keep_syntax.specs.declared.line.Head.{Head}
use Rattle.keep_syntax.specs.Tree.{Written, Gap, Further, Key, keyval, header, element, token, key_leaves, name_leaves}
use Rattle.keep_syntax.specs.Tree.{content_leaves}
use Rattle.keep_syntax.specs.Numbered.{width, key_count, key_parts, further_parts, entries_parts, nested_start}
use Rattle.keep_syntax.specs.Numbered.{value_values}
use Rattle.keep_syntax.specs.Reading.{space_at, key_of, name_of, value_of, is_line_end, keyval_of, header_by}
use Rattle.keep_syntax.specs.Reading.{element_by, content_at}
use Rattle.keep_syntax_store.specs.Flat.{Flat}
use Rattle.keep_syntax.specs.Growth.{Taken, only, Fails, IsSyntax, PunctuationIs, SpaceRead, KeyRead, NameRead}
use Rattle.keep_syntax.specs.Growth.{ValueRead, key_taken, name_taken}
use Rattle.keep_syntax.specs.FlatLines.{content_taken, ContentIs}
use Rattle.keep_syntax.proofs.LoopLaws.{done, ok_is}
use Rattle.keep_syntax.proofs.GrowthLaws.{same_taken, grows_then, grows_as, grown_keys, grown_values}
use Rattle.keep_syntax.proofs.GapCodeLaws.{first-drop, after_leaf, after_sign, sign_grows, fails_bad, fails_through}

-- ---- which content

next-drop : (text : List ℕ) (at : ℕ) → get_or (drop at text) 1 0 ≡ get_or text (at + 1) 0
next-drop text at = get_or-drop at text 1 0

pub keyval_content : (profile : Profile) (depth_left : ℕ) (text : List ℕ) (at : ℕ)
    → is_line_end (get_or text at 0) ≡ false → (get_or text at 0 == 0x5B) ≡ false
    → content_at profile depth_left (drop at text) ≡ keyval_of profile depth_left (drop at text)
unfolding content_at
keyval_content profile depth_left text at more other = rw (first-drop text at, more, other) refl

pub header_content : (profile : Profile) (depth_left : ℕ) (text : List ℕ) (at : ℕ) → get_or text at 0 ≡ 0x5B
    → (get_or text (at + 1) 0 == 0x5B) ≡ false
    → content_at profile depth_left (drop at text) ≡ header_by profile (space_at (drop 1 (drop at text)))
unfolding content_at
header_content profile depth_left text at opens once = rw (first-drop text at, opens, next-drop text at, once) refl

pub element_content : (profile : Profile) (depth_left : ℕ) (text : List ℕ) (at : ℕ) → get_or text at 0 ≡ 0x5B
    → get_or text (at + 1) 0 ≡ 0x5B
    → content_at profile depth_left (drop at text) ≡ element_by profile (space_at (drop 2 (drop at text)))
unfolding content_at
element_content profile depth_left text at opens twice = rw (first-drop text at, opens, next-drop text at, twice) refl

-- ---- how many key parts

length-further : (at : ℕ) (fs : List Further) → length (further_parts at fs) ≡ length fs
length-further at [] = refl
length-further at (f ∷ fs) = ap suc (length-further (at + width f.before + 1 + width f.after + length f.part.text) fs)

length-key : (at : ℕ) (k : Key) → length (key_parts at k) ≡ key_count k
length-key at k = ap suc (length-further (at + length k.first.text) k.more)

pub name_grown : (profile : Profile) (text : List ℕ) (at begin : ℕ) (old new : Flat)
    (n : NameRead profile text at old new (Ok begin))
    → (length new.keys ≡ length old.keys + key_count n.part.key) × (length new.values ≡ length old.values)
name_grown profile text at begin old new n = (
  omega (arith, grown_keys (name_taken at n.part) n.grows, length-key at n.part.key),
  omega (arith, grown_values (name_taken at n.part) n.grows),
)

pub key_grown : (profile : Profile) (text : List ℕ) (at len inner begin close : ℕ) (l : Leaf) (old f1 f2 new : Flat)
    → PunctuationIs text at len l old f1 inner → (s : SpaceRead text inner f1 f2 (Ok begin))
    → (k : KeyRead profile text begin f2 new (Ok close)) → length new.keys ≡ length old.keys + key_count k.part.0
key_grown profile text at len inner begin close l old f1 f2 new sg s k =
    omega (
      arith,
      ap (λ (f : Flat). length f.keys) sg.stored,
      grown_keys (only s.part) s.grows,
      grown_keys (key_taken begin k.part) k.grows,
      length-key begin k.part.0,
    )

-- ---- a keyval

pub keyval_fails_name : (profile : Profile) (depth_left : ℕ) (text : List ℕ) (at : ℕ) (e : ReadFault)
    → is_line_end (get_or text at 0) ≡ false → (get_or text at 0 == 0x5B) ≡ false
    → Fails text e (name_of profile (drop at text)) → Fails text e (content_at profile depth_left (drop at text))
keyval_fails_name profile depth_left text at e more other k =
    fails_through text e (name_of profile (drop at text)) (content_at profile depth_left (drop at text))
    (λ f h. keyval_content profile depth_left text at more other ∙ rw h refl) k

pub keyval_fails_value : (profile : Profile) (depth_left : ℕ) (text : List ℕ) (at begin : ℕ) (old new : Flat)
    (e : ReadFault) → is_line_end (get_or text at 0) ≡ false → (get_or text at 0 == 0x5B) ≡ false
    → NameRead profile text at old new (Ok begin)
    → Fails text e (value_of profile depth_left (drop begin text))
    → Fails text e (content_at profile depth_left (drop at text))
keyval_fails_value profile depth_left text at begin old new e more other n k =
    fails_through text e (value_of profile depth_left (drop begin text)) (content_at profile depth_left (drop at text))
    (λ f h. keyval_content profile depth_left text at more other ∙ rw (n.is_read, h) refl) k

pub keyval_is : (profile : Profile) (depth_left : ℕ) (text : List ℕ) (p : Start) (begin end count keys : ℕ)
    (old f1 new : Flat) → is_line_end (get_or text p.at 0) ≡ false → (get_or text p.at 0 == 0x5B) ≡ false
    → NameRead profile text p.at old f1 (Ok begin)
    → p.parts ≡ length old.keys → count ≡ length f1.keys → keys ≡ count - p.parts
    → ValueRead profile depth_left text begin keys p f1 new (Ok end)
    → ContentIs profile depth_left text p old new end (record { kind = KeyVal; keys = keys; value = Some p.values })
keyval_is profile depth_left text p begin end count keys old f1 new more other n e1 e2 e3 v =
    let c = keyval n.part v.part in
    let counted : keys ≡ key_count n.part.key =
    omega (arith, e1, e2, e3, (name_grown profile text p.at begin old f1 n).0) in
    let taken : ℕ → ℕ → Taken =
    λ at ks.
    record {
      leaves = content_leaves c;
      statements = [];
      keys = key_parts p.at n.part.key ++ entries_parts (nested_start at v.part.body) v.part.nested;
      values = value_values p at ks v.part;
    } in
    let same : taken begin keys ≡ content_taken p c =
    ap (λ (m : ℕ). taken m keys) n.grows.place ∙ ap (taken (p.at + width (name_leaves n.part))) counted in
    record {
      read = record {
        part = c;
        bound = v.bound;
        forward = omega (arith, n.forward, v.forward);
        is_read = keyval_content profile depth_left text p.at more other ∙ rw (n.is_read, v.is_read) refl;
        grows = grows_as (content_taken p c) same (grows_then n.grows v.grows);
      };
      stated =
          ap (λ (k : ℕ). let h : Head = record { kind = KeyVal; keys = k; value = Some p.values } in Some h)
          (sym counted);
    }

-- ---- a header

space_is : (text : List ℕ) (at len inner begin : ℕ) (g : Gap) → inner ≡ at + len
    → done (space_at (drop inner text)) ≡ done (g, drop begin text)
    → space_at (drop len (drop at text)) ≡ (g, drop begin text)
space_is text at len inner begin g e s =
    ap space_at (after_leaf text at len inner (sym e)) ∙ ok_is (space_at (drop inner text)) (g, drop begin text) s

pub header_fails : (profile : Profile) (depth_left : ℕ) (text : List ℕ) (at inner begin : ℕ) (f1 f2 : Flat)
    (e : ReadFault) → get_or text at 0 ≡ 0x5B → (get_or text (at + 1) 0 == 0x5B) ≡ false → inner ≡ at + 1
    → SpaceRead text inner f1 f2 (Ok begin)
    → Fails text e (key_of profile (drop begin text)) → Fails text e (content_at profile depth_left (drop at text))
header_fails profile depth_left text at inner begin f1 f2 e opens once is s k =
    fails_through text e (key_of profile (drop begin text)) (content_at profile depth_left (drop at text))
    (λ f h. header_content profile depth_left text at opens once
    ∙ rw (space_is text at 1 inner begin s.part is s.is_read, h) refl) k

pub header_bad : (profile : Profile) (depth_left : ℕ) (text : List ℕ) (at inner begin close : ℕ) (f1 f2 f3 : Flat)
    (e : ReadFault) → get_or text at 0 ≡ 0x5B → (get_or text (at + 1) 0 == 0x5B) ≡ false → inner ≡ at + 1
    → SpaceRead text inner f1 f2 (Ok begin)
    → KeyRead profile text begin f2 f3 (Ok close) → (get_or text close 0 == 0x5D) ≡ false → IsSyntax e
    → Fails text e (content_at profile depth_left (drop at text))
header_bad profile depth_left text at inner begin close f1 f2 f3 e opens once is s k other fault =
    fails_bad text e (content_at profile depth_left (drop at text)) fault
    (header_content profile depth_left text at opens once
    ∙ rw (space_is text at 1 inner begin s.part is s.is_read, k.is_read, first-drop text close, other) refl)

pub header_is : (profile : Profile) (depth_left : ℕ) (text : List ℕ) (p : Start) (inner begin close end count : ℕ)
    (old f1 f2 f3 new : Flat) → get_or text p.at 0 ≡ 0x5B → (get_or text (p.at + 1) 0 == 0x5B) ≡ false
    → PunctuationIs text p.at 1 leaf.HeadOpen old f1 inner → SpaceRead text inner f1 f2 (Ok begin)
    → KeyRead profile text begin f2 f3 (Ok close) → get_or text close 0 ≡ 0x5D → p.parts ≡ length old.keys
    → count ≡ length f3.keys → PunctuationIs text close 1 leaf.HeadClose f3 new end
    → ContentIs profile depth_left text p old new end (record { kind = Header; keys = count - p.parts; value = None })
header_is profile depth_left text p inner begin close end count old f1 f2 f3 new opens once sg s k closes e1 e2 sg2 =
    let key = k.part.0 in
    let c = header s.part key k.part.1 in
    let counted : key_count key ≡ count - p.parts =
    omega (arith, e1, e2, key_grown profile text p.at 1 inner begin close leaf.HeadOpen old f1 f2 f3 sg s k) in
    let from : begin ≡ p.at + 1 + width s.part = omega (arith, sg.end_is, s.grows.place) in
    let g = grows_then (sign_grows text (0x5B ∷ []) p.at 1 leaf.HeadOpen old f1 inner refl sg)
    (grows_then s.grows (grows_then k.grows
    (sign_grows text (0x5D ∷ []) close 1 leaf.HeadClose f3 new end refl sg2))) in
    record {
      read = record {
        part = c;
        bound = sg2.bound;
        forward = omega (arith, sg.end_is, s.forward, k.forward, sg2.end_is);
        is_read =
            header_content profile depth_left text p.at opens once
            ∙ rw (
              space_is text p.at 1 inner begin s.part sg.end_is s.is_read,
              k.is_read,
              first-drop text close,
              closes,
              after_sign text close end sg2.end_is,
            ) refl;
        grows = grows_as (content_taken p c)
            (same_taken _ (content_taken p c)
            (ap (λ (ws : List Written). token leaf.HeadOpen (0x5B ∷ []) ++ (s.part ++ ws))
            (append_assoc (key_leaves key) k.part.1 (token leaf.HeadClose (0x5D ∷ [])))) refl
            (append-nil (key_parts begin key) ∙ ap (λ (n : ℕ). key_parts n key) from) refl) g;
      };
      stated = ap (λ (n : ℕ). let h : Head = record { kind = Header; keys = n; value = None } in Some h) counted;
    }

-- ---- the header of an element

pub element_fails : (profile : Profile) (depth_left : ℕ) (text : List ℕ) (at inner begin : ℕ) (f1 f2 : Flat)
    (e : ReadFault) → get_or text at 0 ≡ 0x5B → get_or text (at + 1) 0 ≡ 0x5B → inner ≡ at + 2
    → SpaceRead text inner f1 f2 (Ok begin)
    → Fails text e (key_of profile (drop begin text)) → Fails text e (content_at profile depth_left (drop at text))
element_fails profile depth_left text at inner begin f1 f2 e opens twice is s k =
    fails_through text e (key_of profile (drop begin text)) (content_at profile depth_left (drop at text))
    (λ f h. element_content profile depth_left text at opens twice
    ∙ rw (space_is text at 2 inner begin s.part is s.is_read, h) refl) k

pub element_bad : (profile : Profile) (depth_left : ℕ) (text : List ℕ) (at inner begin close : ℕ) (f1 f2 f3 : Flat)
    (e : ReadFault) → get_or text at 0 ≡ 0x5B → get_or text (at + 1) 0 ≡ 0x5B → inner ≡ at + 2
    → SpaceRead text inner f1 f2 (Ok begin)
    → KeyRead profile text begin f2 f3 (Ok close)
    → ((get_or text close 0 == 0x5D) && (get_or text (close + 1) 0 == 0x5D)) ≡ false → IsSyntax e
    → Fails text e (content_at profile depth_left (drop at text))
element_bad profile depth_left text at inner begin close f1 f2 f3 e opens twice is s k other fault =
    fails_bad text e (content_at profile depth_left (drop at text)) fault
    (element_content profile depth_left text at opens twice
    ∙ rw (
      space_is text at 2 inner begin s.part is s.is_read,
      k.is_read,
      first-drop text close,
      next-drop text close,
      other,
    ) refl)

pub element_is : (profile : Profile) (depth_left : ℕ) (text : List ℕ) (p : Start) (inner begin close end count : ℕ)
    (old f1 f2 f3 new : Flat) → get_or text p.at 0 ≡ 0x5B → get_or text (p.at + 1) 0 ≡ 0x5B
    → PunctuationIs text p.at 2 leaf.ElemOpen old f1 inner → SpaceRead text inner f1 f2 (Ok begin)
    → KeyRead profile text begin f2 f3 (Ok close) → get_or text close 0 ≡ 0x5D → get_or text (close + 1) 0 ≡ 0x5D
    → p.parts ≡ length old.keys → count ≡ length f3.keys → PunctuationIs text close 2 leaf.ElemClose f3 new end
    → ContentIs profile depth_left text p old new end (record { kind = Element; keys = count - p.parts; value = None })
element_is profile depth_left text p inner begin close end count old f1 f2 f3 new opens twice sg s k closes closes2 e1
    e2 sg2 =
    let key = k.part.0 in
    let c = element s.part key k.part.1 in
    let counted : key_count key ≡ count - p.parts =
    omega (arith, e1, e2, key_grown profile text p.at 2 inner begin close leaf.ElemOpen old f1 f2 f3 sg s k) in
    let from : begin ≡ p.at + 2 + width s.part = omega (arith, sg.end_is, s.grows.place) in
    let g = grows_then (sign_grows text (0x5B ∷ 0x5B ∷ []) p.at 2 leaf.ElemOpen old f1 inner refl sg)
    (grows_then s.grows (grows_then k.grows
    (sign_grows text (0x5D ∷ 0x5D ∷ []) close 2 leaf.ElemClose f3 new end refl sg2))) in
    record {
      read = record {
        part = c;
        bound = sg2.bound;
        forward = omega (arith, sg.end_is, s.forward, k.forward, sg2.end_is);
        is_read =
            element_content profile depth_left text p.at opens twice
            ∙ rw (
              space_is text p.at 2 inner begin s.part sg.end_is s.is_read,
              k.is_read,
              first-drop text close,
              next-drop text close,
              closes,
              closes2,
              after_leaf text close 2 end (sym sg2.end_is),
            ) refl;
        grows = grows_as (content_taken p c)
            (same_taken _ (content_taken p c)
            (ap (λ (ws : List Written). token leaf.ElemOpen (0x5B ∷ 0x5B ∷ []) ++ (s.part ++ ws))
            (append_assoc (key_leaves key) k.part.1 (token leaf.ElemClose (0x5D ∷ 0x5D ∷ [])))) refl
            (append-nil (key_parts begin key) ∙ ap (λ (n : ℕ). key_parts n key) from) refl) g;
      };
      stated = ap (λ (n : ℕ). let h : Head = record { kind = Element; keys = n; value = None } in Some h) counted;
    }
