-- Where a bracket is one too many, some value continues after it.
--
-- Each leaf opens a bracket, closes one, or does neither, so a run of leaves has a number of brackets that it leaves
-- open and a greatest number that are open within it (`Opens`), and the two add up over runs (`opens-append`). A value
-- closes what it opens, and its depth is that greatest number (`value_opens`). Where the reading stops at a bracket for
-- which no depth is left, a value is built that has the text up to there and goes on (`Leads`), by induction over the
-- depth that is left. It is deeper than the limit there, and so is every other value with that text.
--
-- Theorems: `value_opens` and `value_deep`.
use Rattle.std.proofs.Common.{◌≡◌, ℕ, zero, suc, ◌+◌, ◌≤◌, max, Bool, true, false, cond, not, ◌&&◌, ◌==◌, List, [], ◌∷◌}
use Rattle.std.proofs.Common.{◌++◌, length, drop, Option, Some, None, Ok, Err, refl, sym, ap, ◌∙◌, subst, inl, inr}
use Rattle.std.proofs.Common.{arith, append_assoc}
use Rattle.std.specs.Prelude.{IsTrue}
use Rattle.std.specs.List.{flat_map, AllByRecursion}
use Rattle.std.proofs.lemmas.List.{append-nil, length-append, length-drop}
use Rattle.keep_types.specs.declared.leaf.Profile.{Profile}
use Rattle.keep_types.specs.declared.leaf.Profile.TheVariants.{Strict, Wide}
use Rattle.keep_types.specs.declared.leaf.Leaf.{Leaf}
use Rattle.keep_types.specs.declared.leaf.Leaf.TheVariants as leaf
use Rattle.keep_token.specs.Leaves.{is_gap_leaf, is_key_leaf, is_scalar_leaf}
use Rattle.keep_token.specs.Scanning.{first, scalar_at}
use Rattle.keep_token.proofs.Shared.{tested}
use Rattle.keep_syntax.specs.declared.info.Brackets.{Brackets}
use Rattle.keep_syntax.specs.declared.info.Brackets.TheVariants as brackets
use Rattle.keep_syntax.specs.Tree.{Written, Gap, Further, Key, Name, Body, scalar, array, inline, Entries, none, entry}
use Rattle.keep_syntax.specs.Tree.{Value, text_of, token, further_leaves, key_leaves, name_leaves, named_leaves}
use Rattle.keep_syntax.specs.Tree.{opening, closing, comma_leaves, entries_leaves, value_leaves, around, entries_depth}
use Rattle.keep_syntax.specs.Tree.{value_depth}
use Rattle.keep_syntax.specs.Grammar.{IsSpace, IsBlank, IsKeyPart, IsFurther, IsKey, IsName, place_in, IsGap, IsNamed}
use Rattle.keep_syntax.specs.Grammar.{IsBody, IsComma, AreEntries, IsValue, ReadsValue}
use Rattle.keep_syntax.specs.Deep.{is_opening, open_by, open_after, most_open, IsDeepIn, IsValueTooDeep}
use Rattle.keep_syntax.specs.Reading.{Bad, Deep, Read, ◌>>=◌, Iteration, continues, ready, open_byte, close_byte}
use Rattle.keep_syntax.specs.Reading.{body_in, is_free, gap_in, name_of, join, Item, entry_of, named_in, after_by}
use Rattle.keep_syntax.specs.Reading.{item_by, iteration_of, entry_by, entries_by, bracket_by, scalar_of, value_by}
use Rattle.keep_syntax.specs.Reading.{value_of, read_one_value}
use Rattle.keep_syntax.proofs.LoopLaws.{bind_err, repeat_deep}
use Rattle.keep_syntax.proofs.WholeLaws.{value_read}
use Rattle.keep_syntax.proofs.SpaceLaws.{text_of-append, is_solid, place_of, gap_takes, gap_blank, space_blank}
use Rattle.keep_syntax.proofs.KeyLaws.{first_is, name_not_deep}
use Rattle.keep_syntax.proofs.ValueLaws.{item_leaves, entry_leaves, is_value_first, value_first_solid, After}
use Rattle.keep_syntax.proofs.ValueLaws.{ReadsValues, TookItem, named_takes, at_close, at_last, at_comma, entry_cases}
use Rattle.keep_syntax.proofs.ValueLaws.{bracket_valid, open_some, open_begins, value_takes}

-- ---- how many brackets leaves open

-- these leaves open so many more brackets than they close, and at the most so many
abbrev pub Opens : ℕ → ℕ → List Written → Type 0
Opens k m ws = (n : ℕ) → (open_after n ws ≡ n + k) × (most_open n ws ≡ n + m)

-- none
abbrev pub Plain : List Written → Type 0
Plain ws = Opens 0 0 ws

pub open_after-append : (n : ℕ) (a b : List Written) → open_after n (a ++ b) ≡ open_after (open_after n a) b
open_after-append n [] b = refl
open_after-append n (w ∷ ws) b = open_after-append (open_by w.leaf n) ws b

pub most_open-least : (n : ℕ) (ws : List Written) → n ≤ most_open n ws
most_open-least n [] = omega arith
most_open-least n (w ∷ ws) = omega arith

pub most_open-append : (n : ℕ) (a b : List Written)
    → most_open n (a ++ b) ≡ max (most_open n a) (most_open (open_after n a) b)
most_open-append n [] b = omega (arith, most_open-least n b)
most_open-append n (w ∷ ws) b = omega (arith, most_open-append (open_by w.leaf n) ws b)

pub opens-append : (j p k q m r : ℕ) (a b : List Written) → m ≡ j + k → r ≡ max p (j + q) → Opens j p a → Opens k q b
    → Opens m r (a ++ b)
opens-append j p k q m r a b e f h g n =
    let (ha, hm) = h n in
    let (ga, gm) = g (n + j) in (
      open_after-append n a b ∙ ap (λ (i : ℕ). open_after i b) ha ∙ ga ∙ omega arith,
      most_open-append n a b ∙ omega (arith, hm, ap (λ (i : ℕ). most_open i b) ha, gm),
    )

pub none-append : (a b : List Written) → Plain a → Plain b → Plain (a ++ b)
none-append a b h g = opens-append 0 0 0 0 0 0 a b refl refl h g

-- leaves that open none before and after others
pub plain_first : (m : ℕ) (a b : List Written) → Plain a → Opens 0 m b → Opens 0 m (a ++ b)
plain_first m a b h g = opens-append 0 0 0 m 0 m a b refl (omega arith) h g

pub plain_last : (m : ℕ) (a b : List Written) → Opens 0 m a → Plain b → Opens 0 m (a ++ b)
plain_last m a b h g = opens-append 0 m 0 0 0 m a b refl (omega arith) h g

pub opens-none : Plain []
opens-none n = (omega arith, omega arith)

opens-one : (l : Leaf) (text : List ℕ) → ((n : ℕ) → open_by l n ≡ n) → Plain (token l text)
opens-one l text h n = (h n ∙ omega arith, omega (arith, h n))

gap_opens : (l : Leaf) → IsTrue (is_gap_leaf l) → (n : ℕ) → open_by l n ≡ n
gap_opens leaf.Ws h n = refl
gap_opens leaf.Newline h n = refl
gap_opens leaf.Comment h n = refl
gap_opens _ h n = absurd cc

key_opens : (l : Leaf) → IsTrue (is_key_leaf l) → (n : ℕ) → open_by l n ≡ n
key_opens leaf.BareKey h n = refl
key_opens leaf.Basic h n = refl
key_opens leaf.Literal h n = refl
key_opens _ h n = absurd cc

pub scalar_opens : (l : Leaf) → IsTrue (is_scalar_leaf l) → (n : ℕ) → open_by l n ≡ n
scalar_opens leaf.ArrayOpen h n = absurd cc
scalar_opens leaf.InlineOpen h n = absurd cc
scalar_opens leaf.ArrayClose h n = absurd cc
scalar_opens leaf.InlineClose h n = absurd cc
scalar_opens _ h n = refl

pub blank_opens : (g : Gap) → IsBlank g → Plain g
blank_opens [] h = opens-none
blank_opens (w ∷ more) h =
    none-append (w ∷ []) more (opens-one w.leaf w.text (gap_opens w.leaf h.0)) (blank_opens more h.3)

pub space_opens : (g : Gap) → IsSpace g → Plain g
space_opens g h = blank_opens g (space_blank g h)

part_opens : (profile : Profile) (w : Written) → IsKeyPart profile w → Plain (w ∷ [])
part_opens profile w h = opens-one w.leaf w.text (key_opens w.leaf h.0)

further_opens : (profile : Profile) (f : Further) → IsFurther profile f → Plain (further_leaves f)
further_opens profile f h =
    none-append f.before (token leaf.Dot (0x2E ∷ []) ++ (f.after ++ (f.part ∷ []))) (space_opens f.before h.before)
    (none-append (token leaf.Dot (0x2E ∷ [])) (f.after ++ (f.part ∷ [])) (opens-one leaf.Dot (0x2E ∷ []) (λ n. refl))
    (none-append f.after (f.part ∷ []) (space_opens f.after h.after) (part_opens profile f.part h.part)))

more_opens : (profile : Profile) (fs : List Further) → AllByRecursion (IsFurther profile) fs
    → Plain (flat_map further_leaves fs)
more_opens profile [] h = opens-none
more_opens profile (f ∷ fs) h =
    none-append (further_leaves f) (flat_map further_leaves fs) (further_opens profile f h.0)
    (more_opens profile fs h.1)

pub keys_open : (profile : Profile) (k : Key) → IsKey profile k → Plain (key_leaves k)
keys_open profile k h =
    none-append (k.first ∷ []) (flat_map further_leaves k.more) (part_opens profile k.first h.first)
    (more_opens profile k.more h.more)

pub name_opens : (profile : Profile) (n : Name) → IsName profile n → Plain (name_leaves n)
name_opens profile n h =
    none-append (key_leaves n.key) (n.before ++ (token leaf.Equals (0x3D ∷ []) ++ n.after))
    (keys_open profile n.key h.key)
    (none-append n.before (token leaf.Equals (0x3D ∷ []) ++ n.after) (space_opens n.before h.before)
    (none-append (token leaf.Equals (0x3D ∷ [])) n.after (opens-one leaf.Equals (0x3D ∷ []) (λ n. refl))
    (space_opens n.after h.after)))

pub named_opens : (profile : Profile) (b : Brackets) (n : Option Name) → IsNamed profile (place_of b) n
    → Plain (named_leaves n)
named_opens profile b None h = opens-none
named_opens profile brackets.Array (Some n) h = absurd h
named_opens profile brackets.Inline (Some n) h = name_opens profile n h

comma_opens : (profile : Profile) (b : Brackets) (comma : Option Gap) → ((g : Gap) → comma ≡ Some g → IsBlank g)
    → Plain (comma_leaves comma)
comma_opens profile b None h = opens-none
comma_opens profile b (Some g) h =
    none-append (token leaf.Comma (0x2C ∷ [])) g (opens-one leaf.Comma (0x2C ∷ []) (λ n. refl))
    (blank_opens g (h g refl))

-- a bracket with its gap opens one
opening_opens : (b : Brackets) (g : Gap) → IsBlank g → Opens 1 1 (opening (body_in b g))
opening_opens b g h = by b
  where
    one : (l : Leaf) (c : ℕ) → ((n : ℕ) → open_by l n ≡ suc n) → Opens 1 1 (token l (c ∷ []) ++ g)
    one l c k =
        opens-append 1 1 0 0 1 1 (token l (c ∷ [])) g refl refl (λ n. (k n ∙ omega arith, omega (arith, k n)))
        (blank_opens g h)

    by : (b : Brackets) → Opens 1 1 (opening (body_in b g))
    by brackets.Array = one leaf.ArrayOpen 0x5B (λ n. refl)
    by brackets.Inline = one leaf.InlineOpen 0x7B (λ n. refl)

-- a value closes what it opens
bracket_closes : (b : Brackets) (g : Gap) (nested : Entries) (d : ℕ) → IsBlank g → Opens 0 d (entries_leaves nested)
    → Opens 0 (suc d) (value_leaves (record { body = body_in b g; nested = nested }))
bracket_closes b g nested d h k n =
    let begin = opening (body_in b g) in
    let es = entries_leaves nested in
    let close = closing (body_in b g) in
    let (oa, om) = opening_opens b g h n in
    let (ea, em) = k (n + 1) in (
      open_after-append n begin (es ++ close) ∙ ap (λ (i : ℕ). open_after i (es ++ close)) oa
          ∙ open_after-append (n + 1) es close ∙ ap (λ (i : ℕ). open_after i close) ea ∙ by b,
      most_open-append n begin (es ++ close)
          ∙ omega (
            arith,
            om,
            ap (λ (i : ℕ). most_open i (es ++ close)) oa,
            most_open-append (n + 1) es close,
            em,
            ap (λ (i : ℕ). most_open i close) ea,
            most b,
          ),
    )
  where
    by : (b : Brackets) → open_after ((n + 1) + 0) (closing (body_in b g)) ≡ n + 0
    by brackets.Array = omega arith
    by brackets.Inline = omega arith

    most : (b : Brackets) → most_open ((n + 1) + 0) (closing (body_in b g)) ≡ n + 1
    most brackets.Array = omega arith
    most brackets.Inline = omega arith

value_closes : (profile : Profile) (body : Body) (nested : Entries) → IsBody profile body
    → AreEntries profile (place_in body) nested
    → ((b : Brackets) → AreEntries profile (place_of b) nested → Opens 0 (entries_depth nested) (entries_leaves nested))
    → Opens 0 (around body (entries_depth nested)) (value_leaves (record { body = body; nested = nested }))
value_closes profile (scalar w) none h i ih = opens-one w.leaf w.text (scalar_opens w.leaf h.0)
value_closes profile (scalar w) (entry name body nested after comma rest) h i ih = absurd i.0
value_closes profile (array g) nested h i ih =
    bracket_closes brackets.Array g nested (entries_depth nested) (gap_blank profile brackets.Array g h)
    (ih brackets.Array i)
value_closes profile (inline g) nested h i ih =
    bracket_closes brackets.Inline g nested (entries_depth nested) (gap_blank profile brackets.Inline g h)
    (ih brackets.Inline i)

pub comma_blank : (profile : Profile) (b : Brackets) (comma : Option Gap) (rest : Entries)
    → IsComma profile (place_of b) comma rest → (g : Gap) → comma ≡ Some g → IsBlank g
comma_blank profile b None rest h g e = absurd cc
comma_blank profile b (Some k) none h g e =
    let same : k ≡ g = cc in gap_blank profile b g (subst (λ (x : Gap). IsGap profile (place_of b) x) same h.0)
comma_blank profile b (Some k) (entry name body nested after comma rest) h g e =
    let same : k ≡ g = cc in gap_blank profile b g (subst (λ (x : Gap). IsGap profile (place_of b) x) same h)

-- what comes after the value of an item
pub item_ends : (profile : Profile) (b : Brackets) (i : Item) → IsGap profile (place_of b) i.after
    → ((g : Gap) → i.comma ≡ Some g → IsBlank g) → Plain (i.after ++ comma_leaves i.comma)
item_ends profile b i gap comma =
    none-append i.after (comma_leaves i.comma) (blank_opens i.after (gap_blank profile b i.after gap))
    (comma_opens profile b i.comma comma)

pub item_closes : (profile : Profile) (b : Brackets) (i : Item) → IsNamed profile (place_of b) i.name
    → Opens 0 (value_depth i.value) (value_leaves i.value) → IsGap profile (place_of b) i.after
    → ((g : Gap) → i.comma ≡ Some g → IsBlank g) → Opens 0 (value_depth i.value) (item_leaves i)
item_closes profile b i named value gap comma =
    plain_first (value_depth i.value) (named_leaves i.name) (value_leaves i.value ++ (i.after ++ comma_leaves i.comma))
    (named_opens profile b i.name named)
    (plain_last (value_depth i.value) (value_leaves i.value) (i.after ++ comma_leaves i.comma) value
    (item_ends profile b i gap comma))

pub entries_close : (profile : Profile) (es : Entries) (b : Brackets) → AreEntries profile (place_of b) es
    → Opens 0 (entries_depth es) (entries_leaves es)
entries_close profile none b h = opens-none
entries_close profile (entry name body nested after comma rest) b h =
    let i : Item =
    record { name = name; value = record { body = body; nested = nested }; after = after; comma = comma } in
    let d = entries_depth (entry name body nested after comma rest) in
    subst (λ (ws : List Written). Opens 0 d ws) (sym (entry_leaves i rest))
    (opens-append 0 (value_depth i.value) 0 (entries_depth rest) 0 d (item_leaves i) (entries_leaves rest) refl
    (omega arith) (item_closes profile b i h.0
    (value_closes profile body nested h.1 h.2 (λ c k. entries_close profile nested c k)) h.3
    (comma_blank profile b comma rest h.4)) (entries_close profile rest b h.5))

-- What a value opens it closes, and its depth is the most that it opens.
pub value_opens : (profile : Profile) (v : Value) → IsValue profile v → Opens 0 (value_depth v) (value_leaves v)
value_opens profile v h =
    value_closes profile v.body v.nested h.body h.nested (λ b k. entries_close profile v.nested b k)

-- ---- where reading stops at a bracket too many

-- leaves continue from a prefix of a text with a bracket, where so many more are open
pub record Leads (depth_left : ℕ) (text rest : List ℕ) (all : List Written) : Type 0 where
  pub before : List Written
  pub bracket : Written
  pub after : List Written
  pub tail : List ℕ
  pub opens : IsTrue (is_opening bracket.leaf)
  pub here : all ≡ before ++ (bracket ∷ after)
  pub spelled : text ≡ text_of before ++ rest
  pub occurs : rest ≡ bracket.text ++ tail
  pub deep : Opens depth_left depth_left before

-- leaves before and after
pub leads_in : (k m depth_left depth_left' : ℕ) (text t rest : List ℕ) (prefix all back whole : List Written)
    → depth_left' ≡ k + depth_left → m ≤ depth_left' → Opens k m prefix → text ≡ text_of prefix ++ t
    → whole ≡ prefix ++ (all ++ back) → Leads depth_left t rest all → Leads depth_left' text rest whole
leads_in k m depth_left depth_left' text t rest prefix all back whole e le opens spelled is g = record {
  before = prefix ++ g.before;
  bracket = g.bracket;
  after = g.after ++ back;
  tail = g.tail;
  opens = g.opens;
  here = is ∙ ap (λ (ws : List Written). prefix ++ (ws ++ back)) g.here ∙ simp append_assoc;
  spelled =
      spelled ∙ ap (λ (x : List ℕ). text_of prefix ++ x) g.spelled
      ∙ sym (append_assoc (text_of prefix) (text_of g.before) rest)
      ∙ ap (λ (x : List ℕ). x ++ rest) (sym (text_of-append prefix g.before));
  occurs = g.occurs;
  deep = opens-append k m depth_left depth_left depth_left' depth_left' prefix g.before e (omega arith) opens g.deep;
}

pub record DeepValue (profile : Profile) (depth_left : ℕ) (text rest : List ℕ) : Type 0 where
  pub value : Value
  pub valid : IsValue profile value
  pub goes : Leads depth_left text rest (value_leaves value)
  pub begins : is_value_first (first text) ≡ true

record DeepEntries (profile : Profile) (b : Brackets) (depth_left : ℕ) (text rest : List ℕ) : Type 0 where
  entries : Entries
  valid : AreEntries profile (place_of b) entries
  goes : Leads depth_left text rest (entries_leaves entries)
  begins : is_solid (first text) ≡ true

abbrev pub DeepValues : Profile → ℕ → (List ℕ → Read Value) → Type 0
DeepValues profile depth_left value =
    (text rest : List ℕ) → value text ≡ Err (Deep rest) → DeepValue profile depth_left text rest

empty_gap : (profile : Profile) (b : Brackets) → IsGap profile (place_of b) []
empty_gap Strict brackets.Array = tt
empty_gap Wide brackets.Array = tt
empty_gap Strict brackets.Inline = tt
empty_gap Wide brackets.Inline = tt

scalar_not_deep : (profile : Profile) (text rest : List ℕ) → scalar_of text (scalar_at profile text) ≡ Err (Deep rest)
    → ⊥
scalar_not_deep profile text rest h = by (scalar_at profile text) h
  where
    by : (o : Option (Leaf × ℕ)) → scalar_of text o ≡ Err (Deep rest) → ⊥
    by None e = absurd cc
    by (Some (l, n)) e = absurd cc

named_not_deep : (profile : Profile) (b : Brackets) (text rest : List ℕ) → named_in profile b text ≡ Err (Deep rest) → ⊥
named_not_deep profile brackets.Array text rest h = absurd cc
named_not_deep profile brackets.Inline text rest h =
    elim (bind_err (name_of profile text) (λ n. Ok (Some n.0, n.1)) (Deep rest) h) [
      | inl k ↦
          name_not_deep profile text rest k
      | inr x ↦ absurd (let bad = x.2 in cc)
    ]

after_not_deep : (profile : Profile) (b : Brackets) (name : Option Name) (v : Value) (a : Gap × List ℕ) (rest : List ℕ)
    → after_by profile b name v a ≡ Err (Deep rest) → ⊥
after_not_deep profile b name v a rest h =
    elim (tested (first a.1 == 0x2C)) [
      | inl e ↦
          elim (tested (not (is_free profile b) && first (gap_in profile b (drop 1 a.1)).1 == close_byte b)) [
            | inl f ↦
                absurd (let k = rw (e, f) at h in cc)
            | inr f ↦ absurd (let k = rw (e, f) at h in cc)
          ]
      | inr e ↦
          elim (tested (first a.1 == close_byte b)) [
            | inl f ↦ absurd (let k = rw (e, f) at h in cc)
            | inr f ↦
                absurd (let k = rw (e, f) at h in cc)
          ]
    ]

item_deep : (profile : Profile) (b : Brackets) (depth_left : ℕ) (value : List ℕ → Read Value)
    → DeepValues profile depth_left value → (text rest : List ℕ) → item_by profile b value text ≡ Err (Deep rest)
    → DeepEntries profile b depth_left text rest
unfolding item_by
item_deep profile b depth_left value deep text rest h =
    elim (bind_err (named_in profile b text) (λ n. value n.1 >>= λ v. after_by profile b n.0 v.0 (gap_in profile b v.1))
    (Deep rest) h) [
      | inl k ↦ absurd (named_not_deep profile b text rest k)
      | inr x ↦
          let n = x.0 in
          elim (bind_err (value n.1) (λ v. after_by profile b n.0 v.0 (gap_in profile b v.1)) (Deep rest) x.2) [
            | inr y ↦ absurd (after_not_deep profile b n.0 y.0.0 (gap_in profile b y.0.1) rest y.2)
            | inl k ↦
                let d = deep n.1 rest k in
                let tn = named_takes profile b text n.0 n.1 x.1 in
                let i : Item = record { name = n.0; value = d.value; after = []; comma = None } in
                record {
                  entries = entry_of i none;
                  valid = (tn.valid, d.valid.body, d.valid.nested, empty_gap profile b, tt, tt);
                  goes = leads_in 0 0 depth_left depth_left text n.1 rest (named_leaves n.0) (value_leaves d.value) []
                      (entries_leaves (entry_of i none)) (omega arith) (omega arith)
                      (named_opens profile b n.0 tn.valid) tn.spelled (entry_leaves i none ∙ append-nil (item_leaves i))
                      d.goes;
                  begins = tn.begins (value_first_solid (first n.1) d.begins);
                }
          ]
    ]

iteration_deep : (profile : Profile) (b : Brackets) (depth_left : ℕ) (value : List ℕ → Read Value)
    → DeepValues profile depth_left value → (prefix : Entries) (text rest : List ℕ)
    → entry_by profile b value prefix text ≡ Err (Deep rest) → DeepEntries profile b depth_left text rest
unfolding entry_by
iteration_deep profile b depth_left value deep prefix text rest h =
    elim (tested (first text == close_byte b)) [
      | inl e ↦ absurd (let k = rw e at h in cc)
      | inr e ↦
          elim (bind_err (item_by profile b value text) (λ i. Ok (iteration_of prefix i.0 i.0.comma, i.1)) (Deep rest)
          (rw e at h)) [
            | inl k ↦ item_deep profile b depth_left value deep text rest k
            | inr x ↦
                absurd (let bad = x.2 in cc)
          ]
    ]

-- entries with a bracket in them are some
comma_deep : (profile : Profile) (b : Brackets) (g : Gap) (es : Entries) (depth_left : ℕ) (text rest : List ℕ)
    → IsGap profile (place_of b) g → Leads depth_left text rest (entries_leaves es)
    → IsComma profile (place_of b) (Some g) es
comma_deep profile b g none depth_left text rest h goes =
    absurd (omega (arith, ap length goes.here, length-append goes.before (goes.bracket ∷ goes.after)))
comma_deep profile b g (entry name body nested after comma more) depth_left text rest h goes = h

abbrev iteration_on : Entries → Iteration Entries Entries
iteration_on s = continues s

abbrev iteration_ready : Entries → Iteration Entries Entries
iteration_ready s = ready s

entries_deep : (profile : Profile) (b : Brackets) (depth_left : ℕ) (value : List ℕ → Read Value)
    → ReadsValues profile depth_left value → DeepValues profile depth_left value
    → (prefix : Entries) (text rest : List ℕ) → entries_by profile b value prefix text ≡ Err (Deep rest)
    → DeepEntries profile b depth_left text rest
entries_deep profile b depth_left value sound deep prefix text rest h =
    repeat_deep (entry_by profile b value) (λ s t r. DeepEntries profile b depth_left t r)
    (iteration_deep profile b depth_left value deep) on (suc (length text)) prefix text rest h
  where
    clash : (x y : Entries) → iteration_on x ≡ iteration_ready y → ⊥
    clash x y k = absurd cc

    after : (s : Entries) (text text' rest : List ℕ) (i : Item) (g : Gap) → i.comma ≡ Some g
        → TookItem profile b depth_left text i text' → DeepEntries profile b depth_left text' rest
        → DeepEntries profile b depth_left text rest
    after s text text' rest i g is ti d =
        let followed : After profile b (Some g) text' =
        subst (λ (c : Option Gap). After profile b c text') is ti.after in
        let gap : IsGap profile (place_of b) g = followed.0 d.begins in
        let blank : (k : Gap) → i.comma ≡ Some k → IsBlank k =
        λ k e. comma_blank profile b (Some g) d.entries
        (comma_deep profile b g d.entries depth_left text' rest gap d.goes) k (sym is ∙ e) in
        record {
          entries = entry_of i d.entries;
          valid = (
            ti.named,
            ti.valid.body,
            ti.valid.nested,
            ti.gap,
            subst (λ (c : Option Gap). IsComma profile (place_of b) c d.entries) (sym is)
                (comma_deep profile b g d.entries depth_left text' rest gap d.goes),
            d.valid,
          );
          goes = leads_in 0 (value_depth i.value) depth_left depth_left text text' rest (item_leaves i)
              (entries_leaves d.entries) [] (entries_leaves (entry_of i d.entries)) (omega arith) ti.shallow
              (item_closes profile b i ti.named (value_opens profile i.value ti.valid) ti.gap blank) ti.spelled
              (entry_leaves i d.entries
              ∙ ap (λ (ws : List Written). item_leaves i ++ ws) (sym (append-nil (entries_leaves d.entries)))) d.goes;
          begins = ti.begins;
        }

    on : (s : Entries) (text : List ℕ) (s' : Entries) (text' : List ℕ) (rest : List ℕ)
        → entry_by profile b value s text ≡ Ok (continues s', text') → DeepEntries profile b depth_left text' rest
        → DeepEntries profile b depth_left text rest
    on s text s' text' rest e d =
        elim (entry_cases profile b depth_left value sound s text (continues s') text' e) [
          | at_close c k r ↦ absurd (clash s' s k)
          | at_last i is k ti ↦ absurd (clash s' (join s (entry_of i none)) k)
          | at_comma i g is k ti ↦ after s text text' rest i g is ti d
        ]

opening_text : (b : Brackets) (g : Gap) (x : List ℕ)
    → open_byte b ∷ (text_of g ++ x) ≡ text_of (opening (body_in b g)) ++ x
opening_text brackets.Array g x = refl
opening_text brackets.Inline g x = refl

bracket_deep : (profile : Profile) (depth_left : ℕ) (value : List ℕ → Read Value) → ReadsValues profile depth_left value
    → DeepValues profile depth_left value → (b : Brackets) (text rest : List ℕ) → (first text == open_byte b) ≡ true
    → bracket_by profile value b text ≡ Err (Deep rest) → DeepValue profile (suc depth_left) text rest
bracket_deep profile depth_left value sound deep b text rest opens h =
    let g = gap_in profile b (drop 1 text) in
    let gg = gap_takes profile b (drop 1 text) in
    elim (bind_err (entries_by profile b value none g.1)
    (λ es. Ok (record { body = body_in b g.0; nested = es.0 }, drop 1 es.1)) (Deep rest) h) [
      | inr x ↦ absurd (let bad = x.2 in cc)
      | inl k ↦
          let d = entries_deep profile b depth_left value sound deep none g.1 rest k in
          let gap : IsGap profile (place_of b) g.0 = gg.valid d.begins in
          let v : Value = record { body = body_in b g.0; nested = d.entries } in
          let opened : text ≡ open_byte b ∷ drop 1 text = first_is (open_byte b) text (open_some b) opens in
          record {
            value = v;
            valid = bracket_valid profile b g.0 d.entries gap d.valid;
            goes = leads_in 1 1 depth_left (suc depth_left) text g.1 rest (opening (body_in b g.0))
                (entries_leaves d.entries) (closing (body_in b g.0)) (value_leaves v) (omega arith) (omega arith)
                (opening_opens b g.0 (gap_blank profile b g.0 gap))
                (opened ∙ ap (λ (x : List ℕ). open_byte b ∷ x) gg.spelled ∙ opening_text b g.0 g.1) refl d.goes;
            begins = open_begins b text opens;
          }
    ]

-- no depth_left for the bracket
bracket_none : (profile : Profile) (b : Brackets) (text rest : List ℕ) → (first text == open_byte b) ≡ true
    → text ≡ rest → DeepValue profile 0 text rest
bracket_none profile b text rest opens is = by b opens
  where
    by : (b : Brackets) → (first text == open_byte b) ≡ true → DeepValue profile 0 text rest
    by brackets.Array e = record {
      value = record { body = array []; nested = none };
      valid = record { body = empty_gap profile brackets.Array; nested = tt };
      goes = record {
        before = [];
        bracket = record { leaf = leaf.ArrayOpen; text = 0x5B ∷ [] };
        after = token leaf.ArrayClose (0x5D ∷ []);
        tail = drop 1 text;
        opens = refl;
        here = refl;
        spelled = is;
        occurs = sym is ∙ first_is 0x5B text (omega arith) e;
        deep = opens-none;
      };
      begins = open_begins brackets.Array text e;
    }
    by brackets.Inline e = record {
      value = record { body = inline []; nested = none };
      valid = record { body = empty_gap profile brackets.Inline; nested = tt };
      goes = record {
        before = [];
        bracket = record { leaf = leaf.InlineOpen; text = 0x7B ∷ [] };
        after = token leaf.InlineClose (0x7D ∷ []);
        tail = drop 1 text;
        opens = refl;
        here = refl;
        spelled = is;
        occurs = sym is ∙ first_is 0x7B text (omega arith) e;
        deep = opens-none;
      };
      begins = open_begins brackets.Inline text e;
    }

value_by_deep : (profile : Profile) (depth_left : ℕ) (bracket : Brackets → List ℕ → Read Value) (text rest : List ℕ)
    → ((b : Brackets) → (first text == open_byte b) ≡ true → bracket b text ≡ Err (Deep rest)
    → DeepValue profile depth_left text rest) → value_by profile bracket text ≡ Err (Deep rest)
    → DeepValue profile depth_left text rest
value_by_deep profile depth_left bracket text rest deep h =
    elim (tested (first text == 0x5B)) [
      | inl e ↦ deep brackets.Array e (rw e at h)
      | inr e ↦ elim (tested (first text == 0x7B)) [
        | inl f ↦ deep brackets.Inline f (rw (e, f) at h)
        | inr f ↦ absurd (scalar_not_deep profile text rest (rw (e, f) at h))
      ]
    ]

pub value_deep_at : (profile : Profile) (depth_left : ℕ) → DeepValues profile depth_left (value_of profile depth_left)
unfolding value_of
value_deep_at profile zero text rest h =
    value_by_deep profile 0 (λ b t. Err (Deep t)) text rest
    (λ b e k. let same : Deep text ≡ Deep rest = cc in
    let is : text ≡ rest = cc in bracket_none profile b text rest e is) h
value_deep_at profile (suc depth_left) text rest h =
    value_by_deep profile (suc depth_left) (bracket_by profile (value_of profile depth_left)) text rest
    (λ b e k.
    bracket_deep profile depth_left (value_of profile depth_left) (value_takes profile depth_left)
    (value_deep_at profile depth_left) b text rest e k) h

-- ---- whole values

-- the place of what is left
pub leads_at : (limit : ℕ) (text : List ℕ) (at : ℕ) (all : List Written) → at ≤ length text
    → Leads limit text (drop at text) all → IsDeepIn limit text at all
leads_at limit text at all le g = record {
  before = g.before;
  bracket = g.bracket;
  after = g.after;
  rest = g.tail;
  opens = g.opens;
  here = g.here;
  spelled = g.spelled ∙ ap (λ (x : List ℕ). text_of g.before ++ x) g.occurs;
  at_is = omega (arith, ap length g.spelled, length-append (text_of g.before) (drop at text), length-drop at text);
  deep = (g.deep 0).0 ∙ omega arith;
  first = omega (arith, (g.deep 0).1);
}

-- Where a value is reported as too deep, some value continues so, and none within the limit has the text.
pub value_deep : (profile : Profile) (limit : ℕ) (text : List ℕ) (at : ℕ) → at ≤ length text
    → read_one_value profile limit text ≡ Err (Deep (drop at text)) → IsValueTooDeep profile limit text at
unfolding read_one_value
value_deep profile limit text at le h =
    elim (bind_err (value_of profile limit text) (λ v. cond (length v.1 == 0) (Ok v.0) (Err Bad)) (Deep (drop at text))
    h) [
      | inr x ↦ absurd (not_deep (length x.0.1 == 0) x.0.0 x.2)
      | inl k ↦ let d = value_deep_at profile limit text (drop at text) k in record {
        value = d.value;
        valid = d.valid;
        deep = leads_at limit text at (value_leaves d.value) le d.goes;
        none_within = not_read;
      }
    ]
  where
    not_read : (v : Value) → ReadsValue profile limit text v → ⊥
    not_read v r = let clash : Err (Deep (drop at text)) ≡ Ok v = sym h ∙ value_read profile limit text v r in cc

    not_deep : (b : Bool) (v : Value) → cond b (Ok v) (Err Bad) ≡ Err (Deep (drop at text)) → ⊥
    not_deep true v e = absurd cc
    not_deep false v e = absurd cc
