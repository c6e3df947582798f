-- Reading stops at the bracket that is too deep.
--
-- The bracket is looked for among the leaves, part by part. A part that comes before it is read whole, since it opens
-- no more than the limit; a gap or a key cannot have the bracket, since it opens none. So the part that has it is a
-- value, and then an array or an inline table whose first bracket it is, or whose entries have it.
--
-- Theorems: `value_stops`: a value that has the bracket is read up to it; `too_deep_value`: so is a text that is one
-- value; `one_value_place`: there is at most one such bracket.
use Rattle.std.proofs.Common.{◌≡◌, ℕ, zero, suc, ◌+◌, ◌-◌, ◌≤◌, Bool, true, false, not, ◌&&◌, List, [], ◌∷◌, ◌++◌}
use Rattle.std.proofs.Common.{length, drop, Option, Some, None, Result, Ok, Err, refl, sym, ap, ◌∙◌, subst, arith}
use Rattle.std.proofs.Common.{append_assoc, drop_at}
use Rattle.std.specs.Prelude.{IsTrue}
use Rattle.std.proofs.lemmas.List.{length-append, length-drop}
use Rattle.keep_types.specs.declared.leaf.Profile.{Profile}
use Rattle.keep_types.specs.declared.leaf.Leaf.{Leaf}
use Rattle.keep_types.specs.declared.leaf.Leaf.TheVariants as leaf
use Rattle.keep_token.specs.Scanning.{first}
use Rattle.keep_syntax.specs.declared.info.Brackets.{Brackets}
use Rattle.keep_syntax.specs.declared.info.Brackets.TheVariants as brackets
use Rattle.keep_syntax.specs.Tree.{Written, Gap, Name, Body, scalar, array, inline, Entries, none, entry, Value}
use Rattle.keep_syntax.specs.Tree.{text_of, named_leaves, closing, comma_leaves, entries_leaves, value_leaves}
use Rattle.keep_syntax.specs.Tree.{value_depth}
use Rattle.keep_syntax.specs.Grammar.{place_in, IsGap, IsNamed, IsBody, IsComma, AreEntries, IsValue}
use Rattle.keep_syntax.specs.Deep.{is_opening, open_by, open_after, most_open, IsDeepIn, IsValueTooDeep}
use Rattle.keep_syntax.specs.Reading.{Fault, Deep, Read, open_byte, body_in, is_free, gap_in, join, Item, entry_of}
use Rattle.keep_syntax.specs.Reading.{named_in, iteration_of, item_by, entry_by, entries_by, bracket_by, value_of}
use Rattle.keep_syntax.specs.Reading.{read_one_value}
use Rattle.keep_syntax.proofs.LoopLaws.{loop_on, loop_err}
use Rattle.keep_syntax.proofs.SpaceLaws.{text_of-append, solid_no_ws, place_of, gap_again, gap_blank}
use Rattle.keep_syntax.proofs.KeyLaws.{name_begins}
use Rattle.keep_syntax.proofs.ValueLaws.{item_leaves, entry_leaves, is_value_first, value_first_solid, ReadsValues}
use Rattle.keep_syntax.proofs.ValueLaws.{value_takes, entry_shortens}
use Rattle.keep_syntax.proofs.AgainLaws.{EntryFirst, value_first_entry, key_first_entry, item_begins, ReadsAgain}
use Rattle.keep_syntax.proofs.AgainLaws.{Follows, AnItem, named_again, iteration_again, value_again}
use Rattle.keep_syntax.proofs.DeepLaws.{Opens, Plain, open_after-append, most_open-least, most_open-append, blank_opens}
use Rattle.keep_syntax.proofs.DeepLaws.{named_opens, comma_blank, item_ends, item_closes, value_opens}

-- ---- where the bracket is

-- Leaves continue from a prefix of a text with a bracket. So many are open before these leaves, so many more before the
-- bracket, and never more between.
pub record Reaches (outer depth_left : ℕ) (text rest : List ℕ) (all : List Written) : Type 0 where
  pub before : List Written
  pub bracket : Written
  pub after : List Written
  pub tail : List ℕ
  pub opens : IsTrue (is_opening bracket.leaf)
  pub here : all ≡ before ++ (bracket ∷ after)
  pub spelled : text ≡ text_of before ++ rest
  pub occurs : rest ≡ bracket.text ++ tail
  pub deep : open_after outer before ≡ outer + depth_left
  pub most : most_open outer before ≤ outer + depth_left

opening_opens_one : (l : Leaf) → IsTrue (is_opening l) → (n : ℕ) → open_by l n ≡ suc n
opening_opens_one leaf.ArrayOpen h n = refl
opening_opens_one leaf.InlineOpen h n = refl
opening_opens_one _ h n = absurd cc

-- one of two lists has an item of both
data Side (a b before : List Written) (w : Written) (after : List Written) : Type 0 where
  in_first : (more : List Written) → a ≡ before ++ (w ∷ more) → Side a b before w after
  in_second : (less : List Written) → before ≡ a ++ less → b ≡ less ++ (w ∷ after) → Side a b before w after

head_is : (x y : Written) (xs ys : List Written) → (x ∷ xs) ≡ (y ∷ ys) → x ≡ y
head_is x y xs ys e = cc

tail_is : (x y : Written) (xs ys : List Written) → (x ∷ xs) ≡ (y ∷ ys) → xs ≡ ys
tail_is x y xs ys e = cc

side : (a b before : List Written) (w : Written) (after : List Written) → a ++ b ≡ before ++ (w ∷ after)
    → Side a b before w after
side [] b before w after e = in_second before refl e
side (x ∷ xs) b [] w after e = in_first xs (ap (λ (y : Written). y ∷ xs) (head_is x w (xs ++ b) after e))
side (x ∷ xs) b (y ∷ ys) w after e =
    elim (side xs b ys w after (tail_is x y (xs ++ b) (ys ++ (w ∷ after)) e)) [
      | in_first more k ↦
          in_first more (ap (λ (z : Written). z ∷ xs) (head_is x y (xs ++ b) (ys ++ (w ∷ after)) e)
          ∙ ap (λ (zs : List Written). y ∷ zs) k)
      | in_second less k here ↦
          in_second less (ap (λ (z : Written). z ∷ ys) (sym (head_is x y (xs ++ b) (ys ++ (w ∷ after)) e))
          ∙ ap (λ (zs : List Written). x ∷ zs) k) here
    ]

no_items : (before : List Written) (w : Written) (after : List Written) → [] ≡ before ++ (w ∷ after) → ⊥
no_items before w after e = omega (arith, ap length e, length-append before (w ∷ after))

pub not_none : {outer depth_left : ℕ} {text rest : List ℕ} → Reaches outer depth_left text rest [] → ⊥
not_none r = no_items r.before r.bracket r.after r.here

-- Leaves that open no more than may be opened don't have the bracket.
pub not_in : {outer depth_left : ℕ} {text rest : List ℕ} (m : ℕ) (a : List Written) → m ≤ depth_left
    → ((n : ℕ) → most_open n a ≡ n + m) → Reaches outer depth_left text rest a → ⊥
not_in {outer} {depth_left} m a le most r =
    let w = r.bracket in
    let all : most_open outer a ≡ most_open outer (r.before ++ (w ∷ r.after)) = ap (most_open outer) r.here in
    let parts = most_open-append outer r.before (w ∷ r.after) in
    let from : most_open (open_after outer r.before) (w ∷ r.after) ≡ most_open (outer + depth_left) (w ∷ r.after) =
    ap (λ (i : ℕ). most_open i (w ∷ r.after)) r.deep in
    let least = most_open-least (open_by w.leaf (outer + depth_left)) r.after in
    omega (arith, all, parts, from, least, opening_opens_one w.leaf r.opens (outer + depth_left), most outer, le)

pub not_plain : {outer depth_left : ℕ} {text rest : List ℕ} (a : List Written) → Plain a
    → Reaches outer depth_left text rest a → ⊥
not_plain a plain r = not_in 0 a (omega arith) (λ n. (plain n).1) r

-- The bracket is in these leaves or after them.
pub data Where (m outer depth_left : ℕ) (text rest : List ℕ) (a b : List Written) : Type 0 where
  inside : Reaches outer depth_left text rest a → Where m outer depth_left text rest a b
  beyond : (t : List ℕ) → text ≡ text_of a ++ t → m ≤ depth_left → Reaches outer depth_left t rest b
      → Where m outer depth_left text rest a b

pub look : {outer depth_left : ℕ} {text rest : List ℕ} (m : ℕ) (a b : List Written) → Opens 0 m a
    → Reaches outer depth_left text rest (a ++ b) → Where m outer depth_left text rest a b
look {outer} {depth_left} {text} {rest} m a b opens r =
    elim (side a b r.before r.bracket r.after r.here) [
      | in_first more k ↦
          inside (record {
            before = r.before;
            bracket = r.bracket;
            after = more;
            tail = r.tail;
            opens = r.opens;
            here = k;
            spelled = r.spelled;
            occurs = r.occurs;
            deep = r.deep;
            most = r.most;
          })
      | in_second less k here ↦ past less k here
    ]
  where
    past : (less : List Written) → r.before ≡ a ++ less → b ≡ less ++ (r.bracket ∷ r.after)
        → Where m outer depth_left text rest a b
    past less k here =
        let (oa, om) = opens outer in
        let so : open_after outer a ≡ outer = oa ∙ omega arith in
        let all : most_open outer r.before ≡ most_open outer (a ++ less) = ap (most_open outer) k in
        let parts = most_open-append outer a less in
        let from : most_open (open_after outer a) less ≡ most_open outer less = ap (λ (i : ℕ). most_open i less) so in
        beyond (text_of less ++ rest)
        (r.spelled ∙ ap (λ (ws : List Written). text_of ws ++ rest) k
        ∙ ap (λ (x : List ℕ). x ++ rest) (text_of-append a less) ∙ append_assoc (text_of a) (text_of less) rest)
        (omega (arith, r.most, all, parts, om))
        (record {
          before = less;
          bracket = r.bracket;
          after = r.after;
          tail = r.tail;
          opens = r.opens;
          here = here;
          spelled = refl;
          occurs = r.occurs;
          deep = sym (ap (λ (i : ℕ). open_after i less) so) ∙ sym (open_after-append outer a less)
              ∙ ap (open_after outer) (sym k) ∙ r.deep;
          most = omega (arith, r.most, all, parts, from);
        })

pub record Past (outer depth_left : ℕ) (text rest : List ℕ) (a b : List Written) : Type 0 where
  pub more : List ℕ
  pub spelled : text ≡ text_of a ++ more
  pub reaches : Reaches outer depth_left more rest b

-- after leaves that open none
pub past : {outer depth_left : ℕ} {text rest : List ℕ} (a b : List Written) → Plain a
    → Reaches outer depth_left text rest (a ++ b) → Past outer depth_left text rest a b
past a b plain r =
    elim (look 0 a b plain r) [
      | inside k ↦ absurd (not_plain a plain k)
      | beyond t e le k ↦ record { more = t; spelled = e; reaches = k }
    ]

-- before a leaf that opens none
pub before_last : {outer depth_left : ℕ} {text rest : List ℕ} (a : List Written) (x : Written)
    → is_opening x.leaf ≡ false → Reaches outer depth_left text rest (a ++ (x ∷ []))
    → Reaches outer depth_left text rest a
before_last {outer} {depth_left} {text} {rest} a x plain r =
    elim (side a (x ∷ []) r.before r.bracket r.after r.here) [
      | in_first more k ↦
          record {
            before = r.before;
            bracket = r.bracket;
            after = more;
            tail = r.tail;
            opens = r.opens;
            here = k;
            spelled = r.spelled;
            occurs = r.occurs;
            deep = r.deep;
            most = r.most;
          }
      | in_second less k here ↦ absurd (by less here)
    ]
  where
    is_true : (b : Bool) → IsTrue b → b ≡ true
    is_true true h = refl
    is_true false h = h

    by : (less : List Written) → (x ∷ []) ≡ less ++ (r.bracket ∷ r.after) → ⊥
    by [] e =
        let same = head_is x r.bracket [] r.after e in
        absurd (let bad : true ≡ false = sym (is_true (is_opening r.bracket.leaf) r.opens)
        ∙ ap (λ (w : Written). is_opening w.leaf) (sym same) ∙ plain in cc)
    by (y ∷ ys) e = no_items ys r.bracket r.after (tail_is x y [] (ys ++ (r.bracket ∷ r.after)) e)

-- A bracket at the start is the one, where no more may be opened, or opens one.
pub data First (outer depth_left : ℕ) (text rest : List ℕ) (x : Written) (b : List Written) : Type 0 where
  at_start : text ≡ rest → depth_left ≡ 0 → (tail : List ℕ) → text ≡ x.text ++ tail
      → First outer depth_left text rest x b
  within : (t : List ℕ) (less : ℕ) → depth_left ≡ suc less → text ≡ x.text ++ t → Reaches (suc outer) less t rest b
      → First outer depth_left text rest x b

pub begin : {outer depth_left : ℕ} {text rest : List ℕ} (x : Written) (b : List Written) → IsTrue (is_opening x.leaf)
    → Reaches outer depth_left text rest (x ∷ b) → First outer depth_left text rest x b
begin {outer} {depth_left} {text} {rest} x b one r = by r.before r.here r.spelled r.deep r.most
  where
    by : (before : List Written) → (x ∷ b) ≡ before ++ (r.bracket ∷ r.after) → text ≡ text_of before ++ rest
        → open_after outer before ≡ outer + depth_left → most_open outer before ≤ outer + depth_left
        → First outer depth_left text rest x b
    by [] here spelled deep most =
        at_start spelled (omega (arith, deep)) r.tail
        (spelled ∙ r.occurs ∙ ap (λ (w : Written). w.text ++ r.tail) (sym (head_is x r.bracket b r.after here)))
    by (y ∷ ys) here spelled deep most =
        let same : x ≡ y = head_is x y b (ys ++ (r.bracket ∷ r.after)) here in
        let so : open_by y.leaf outer ≡ suc outer =
        ap (λ (w : Written). open_by w.leaf outer) (sym same) ∙ opening_opens_one x.leaf one outer in
        let from : most_open (open_by y.leaf outer) ys ≡ most_open (suc outer) ys = ap (λ (i : ℕ). most_open i ys) so in
        let least = most_open-least (suc outer) ys in
        within (text_of ys ++ rest) (depth_left - 1) (omega (arith, most, from, least))
        (spelled ∙ append_assoc y.text (text_of ys) rest
        ∙ ap (λ (w : Written). w.text ++ (text_of ys ++ rest)) (sym same))
        (record {
          before = ys;
          bracket = r.bracket;
          after = r.after;
          tail = r.tail;
          opens = r.opens;
          here = tail_is x y b (ys ++ (r.bracket ∷ r.after)) here;
          spelled = refl;
          occurs = r.occurs;
          deep = sym (ap (λ (i : ℕ). open_after i ys) so) ∙ deep ∙ omega (arith, most, from, least);
          most = omega (arith, most, from, least);
        })

-- ---- entries

pub record Stops (value : List ℕ → Read Value) (text rest : List ℕ) : Type 0 where
  pub stops : value text ≡ Err (Deep rest)
  pub begins : is_value_first (first text) ≡ true

-- a value with the bracket is not read past it
abbrev pub StopsValues : Profile → ℕ → (List ℕ → Read Value) → Type 0
StopsValues profile depth_left value =
    (v : Value) → IsValue profile v → (outer : ℕ) (text rest : List ℕ)
    → Reaches outer depth_left text rest (value_leaves v) → Stops value text rest

record StopsItem (profile : Profile) (b : Brackets) (value : List ℕ → Read Value) (text rest : List ℕ) : Type 0 where
  stops : item_by profile b value text ≡ Err (Deep rest)
  begins : EntryFirst b (first text)

record StopsEntries (profile : Profile) (b : Brackets) (value : List ℕ → Read Value) (text rest : List ℕ) : Type 0 where
  stops : (prefix : Entries) → entries_by profile b value prefix text ≡ Err (Deep rest)
  begins : EntryFirst b (first text)

named_first : (profile : Profile) (b : Brackets) (n : Option Name) (t : List ℕ) → IsNamed profile (place_of b) n
    → is_value_first (first t) ≡ true → EntryFirst b (first (text_of (named_leaves n) ++ t))
named_first profile brackets.Array None t h begins = value_first_entry (first t) begins
named_first profile brackets.Array (Some n) t h begins = absurd h
named_first profile brackets.Inline None t h begins = absurd h
named_first profile brackets.Inline (Some n) t h begins =
    key_first_entry (first (text_of (named_leaves (Some n)) ++ t)) (name_begins profile n t h)

item_stops : (profile : Profile) (b : Brackets) (depth_left : ℕ) (value : List ℕ → Read Value)
    → StopsValues profile depth_left value → (i : Item) → IsNamed profile (place_of b) i.name → IsValue profile i.value
    → Plain (i.after ++ comma_leaves i.comma)
    → (outer : ℕ) (text rest : List ℕ) → Reaches outer depth_left text rest (item_leaves i)
    → StopsItem profile b value text rest
unfolding item_by
item_stops profile b depth_left value stops i named valid ends outer text rest r =
    let p = past (named_leaves i.name) (value_leaves i.value ++ (i.after ++ comma_leaves i.comma))
    (named_opens profile b i.name named) r in
    elim (look (value_depth i.value) (value_leaves i.value) (i.after ++ comma_leaves i.comma)
    (value_opens profile i.value valid) p.reaches) [
      | beyond t e le k ↦ absurd (not_plain (i.after ++ comma_leaves i.comma) ends k)
      | inside k ↦
          let s = stops i.value valid outer p.more rest k in
          let one : named_in profile b (text_of (named_leaves i.name) ++ p.more) ≡ Ok (i.name, p.more) =
          named_again profile b i.name p.more named
          (solid_no_ws (first p.more) (value_first_solid (first p.more) s.begins)) in
          subst (λ (t : List ℕ). StopsItem profile b value t rest) (sym p.spelled)
          (record { stops = rw (one, s.stops) refl; begins = named_first profile b i.name p.more named s.begins })
    ]

entry_stops : (profile : Profile) (b : Brackets) (value : List ℕ → Read Value) (text rest : List ℕ)
    → StopsItem profile b value text rest → StopsEntries profile b value text rest
unfolding entry_by
entry_stops profile b value text rest s = record {
  stops = λ prefix.
      (let one : entry_by profile b value prefix text ≡ Err (Deep rest) = rw (s.begins.1, s.stops) refl in
      loop_err (entry_by profile b value) prefix text (Deep rest) one);
  begins = s.begins;
}

-- after an entry that is read
entry_passes : (profile : Profile) (b : Brackets) (depth_left : ℕ) (value : List ℕ → Read Value)
    → ReadsValues profile depth_left value → ReadsAgain profile depth_left value
    → (i : Item) (more : Entries) (text t rest : List ℕ)
    → AnItem profile b depth_left i → IsComma profile (place_of b) i.comma more → (more ≡ none → ⊥)
    → text ≡ text_of (item_leaves i) ++ t → StopsEntries profile b value t rest → StopsEntries profile b value text rest
entry_passes profile b depth_left value sound again i more text t rest an comma some spelled s =
    subst (λ (x : List ℕ). StopsEntries profile b value x rest) (sym spelled)
    (record { stops = by i.comma refl more comma some; begins = item_begins profile b i t an.named an.valid })
  where
    never : (x : Bool) → (x && false) ≡ false
    never true = refl
    never false = refl

    by : (c : Option Gap) → i.comma ≡ c → (more : Entries) → IsComma profile (place_of b) c more → (more ≡ none → ⊥)
        → (prefix : Entries) → entries_by profile b value prefix (text_of (item_leaves i) ++ t) ≡ Err (Deep rest)
    by c is none k some prefix = absurd (some refl)
    by None is (entry name body nested after comma rest) k some prefix = absurd k
    by (Some g) is (entry name body nested after comma rest) k some prefix =
        let follows : Follows profile b i.comma t =
        subst (λ (c : Option Gap). Follows profile b c t) (sym is)
        (k, s.begins.0, rw s.begins.1 (never (not (is_free profile b)))) in
        let one =
        iteration_again profile b depth_left value again prefix i t an follows
        ∙ ap (λ (c : Option Gap). Ok (iteration_of prefix i c, t)) is in
        loop_on (entry_by profile b value) (entry_shortens profile b depth_left value sound) prefix
        (text_of (item_leaves i) ++ t) (join prefix (entry_of i none)) t one ∙ s.stops (join prefix (entry_of i none))

entries_stop : (profile : Profile) (b : Brackets) (depth_left : ℕ) (value : List ℕ → Read Value)
    → ReadsValues profile depth_left value → ReadsAgain profile depth_left value → StopsValues profile depth_left value
    → (es : Entries) → AreEntries profile (place_of b) es
    → (outer : ℕ) (text rest : List ℕ) → Reaches outer depth_left text rest (entries_leaves es)
    → StopsEntries profile b value text rest
entries_stop profile b depth_left value sound again stops none h outer text rest r = absurd (not_none r)
entries_stop profile b depth_left value sound again stops (entry name body nested after comma more) h outer text rest
    r =
    let i : Item =
    record { name = name; value = record { body = body; nested = nested }; after = after; comma = comma } in
    let valid : IsValue profile i.value = record { body = h.1; nested = h.2 } in
    let blank = comma_blank profile b comma more h.4 in
    let whole : Reaches outer depth_left text rest (item_leaves i ++ entries_leaves more) =
    subst (λ (ws : List Written). Reaches outer depth_left text rest ws) (entry_leaves i more) r in
    elim (look (value_depth i.value) (item_leaves i) (entries_leaves more)
    (item_closes profile b i h.0 (value_opens profile i.value valid) h.3 blank) whole) [
      | inside k ↦
          entry_stops profile b value text rest
          (item_stops profile b depth_left value stops i h.0 valid (item_ends profile b i h.3 blank) outer text rest k)
      | beyond t e le k ↦
          let s = entries_stop profile b depth_left value sound again stops more h.5 outer t rest k in
          let an : AnItem profile b depth_left i = record { named = h.0; valid = valid; shallow = le; gap = h.3 } in
          entry_passes profile b depth_left value sound again i more text t rest an h.4
          (λ same. not_none (subst (λ (es : Entries). Reaches outer depth_left t rest (entries_leaves es)) same k)) e s
    ]

-- ---- values

bracket_stops : (profile : Profile) (depth_left : ℕ) (value : List ℕ → Read Value)
    → ReadsValues profile depth_left value → ReadsAgain profile depth_left value → StopsValues profile depth_left value
    → (b : Brackets) (g : Gap) (nested : Entries) → IsGap profile (place_of b) g
    → AreEntries profile (place_of b) nested → (outer : ℕ) (t rest : List ℕ)
    → Reaches outer depth_left t rest (g ++ (entries_leaves nested ++ closing (body_in b g)))
    → bracket_by profile value b (open_byte b ∷ t) ≡ Err (Deep rest)
bracket_stops profile depth_left value sound again stops b g nested gap h outer t rest r =
    let p = past g (entries_leaves nested ++ closing (body_in b g)) (blank_opens g (gap_blank profile b g gap)) r in
    let s = entries_stop profile b depth_left value sound again stops nested h outer p.more rest (closed b p.reaches) in
    let one : gap_in profile b t ≡ (g, p.more) =
    ap (gap_in profile b) p.spelled ∙ gap_again profile b g p.more gap s.begins.0 in
    rw (one, s.stops none) refl
  where
    closed : (b : Brackets) {x : List ℕ}
        → Reaches outer depth_left x rest (entries_leaves nested ++ closing (body_in b g))
        → Reaches outer depth_left x rest (entries_leaves nested)
    closed brackets.Array k =
        before_last (entries_leaves nested) (record { leaf = leaf.ArrayClose; text = 0x5D ∷ [] }) refl k
    closed brackets.Inline k =
        before_last (entries_leaves nested) (record { leaf = leaf.InlineClose; text = 0x7D ∷ [] }) refl k

-- no more brackets may be opened
bracket_none : (profile : Profile) (b : Brackets) (outer : ℕ) (text rest : List ℕ) (x : Written) (ws : List Written)
    → IsTrue (is_opening x.leaf) → x.text ≡ open_byte b ∷ [] → Reaches outer 0 text rest (x ∷ ws)
    → Stops (value_of profile 0) text rest
unfolding value_of
bracket_none profile b outer text rest x ws one is r =
    elim (begin x ws one r) [
      | within t less e spelled k ↦ absurd (let bad : 0 ≡ suc less = e in cc)
      | at_start same no_more tail spelled ↦
          let opened : text ≡ open_byte b ∷ tail = spelled ∙ ap (λ (o : List ℕ). o ++ tail) is in
          record {
            stops = ap (value_of profile 0) opened ∙ reads b tail
                ∙ ap (λ (t : List ℕ). Err (Deep t)) (sym opened ∙ same);
            begins = rw opened (begins b);
          }
    ]
  where
    reads : (b : Brackets) (tail : List ℕ) → value_of profile 0 (open_byte b ∷ tail) ≡ Err (Deep (open_byte b ∷ tail))
    reads brackets.Array tail = refl
    reads brackets.Inline tail = refl

    begins : (b : Brackets) → is_value_first (open_byte b) ≡ true
    begins brackets.Array = refl
    begins brackets.Inline = refl

-- the bracket is the first, or among the entries
bracket_some : (profile : Profile) (depth_left : ℕ) → StopsValues profile depth_left (value_of profile depth_left)
    → (b : Brackets) (g : Gap) (nested : Entries) → IsGap profile (place_of b) g
    → AreEntries profile (place_of b) nested → (outer : ℕ) (text rest : List ℕ) (x : Written)
    → IsTrue (is_opening x.leaf) → x.text ≡ open_byte b ∷ []
    → Reaches outer (suc depth_left) text rest (x ∷ (g ++ (entries_leaves nested ++ closing (body_in b g))))
    → Stops (value_of profile (suc depth_left)) text rest
unfolding value_of
bracket_some profile depth_left stops b g nested gap h outer text rest x one is r =
    elim (begin x (g ++ (entries_leaves nested ++ closing (body_in b g))) one r) [
      | at_start same no_more tail spelled ↦ absurd (let bad : suc depth_left ≡ 0 = no_more in cc)
      | within t less e spelled k ↦
          let same : less ≡ depth_left = omega (arith, e) in
          let opened : text ≡ open_byte b ∷ t = spelled ∙ ap (λ (o : List ℕ). o ++ t) is in
          let ih =
          bracket_stops profile depth_left (value_of profile depth_left) (value_takes profile depth_left)
          (value_again profile depth_left) stops b g nested gap h (suc outer) t rest
          (subst (λ (m : ℕ). Reaches (suc outer) m t rest (g ++ (entries_leaves nested ++ closing (body_in b g)))) same
          k) in
          record {
            stops = ap (value_of profile (suc depth_left)) opened ∙ reads b t
                ∙ ih;
            begins = rw opened (begins b);
          }
    ]
  where
    reads : (b : Brackets) (t : List ℕ)
        → value_of profile (suc depth_left) (open_byte b ∷ t)
        ≡ bracket_by profile (value_of profile depth_left) b (open_byte b ∷ t)
    reads brackets.Array t = refl
    reads brackets.Inline t = refl

    begins : (b : Brackets) → is_value_first (open_byte b) ≡ true
    begins brackets.Array = refl
    begins brackets.Inline = refl

-- A value with a bracket that is too deep is read up to the bracket.
pub value_stops : (profile : Profile) (depth_left : ℕ) → StopsValues profile depth_left (value_of profile depth_left)
value_stops profile zero v h outer text rest r = by v.body v.nested h.body h.nested r
  where
    by : (body : Body) (nested : Entries) → IsBody profile body → AreEntries profile (place_in body) nested
        → Reaches outer 0 text rest (value_leaves (record { body = body; nested = nested }))
        → Stops (value_of profile 0) text rest
    by (scalar w) none b i k =
        absurd (not_plain (w ∷ []) (value_opens profile (record { body = scalar w; nested = none }) (record {
          body = b;
          nested = i;
        })) k)
    by (scalar w) (entry name body nested after comma more) b i k = absurd i.0
    by (array g) nested b i k =
        bracket_none profile brackets.Array outer text rest (record { leaf = leaf.ArrayOpen; text = 0x5B ∷ [] })
        (g ++ (entries_leaves nested ++ closing (array g))) refl refl k
    by (inline g) nested b i k =
        bracket_none profile brackets.Inline outer text rest (record { leaf = leaf.InlineOpen; text = 0x7B ∷ [] })
        (g ++ (entries_leaves nested ++ closing (inline g))) refl refl k
value_stops profile (suc depth_left) v h outer text rest r =
    by v.body v.nested h.body h.nested r (bracket_some profile depth_left (value_stops profile depth_left))
  where
    by : (body : Body) (nested : Entries) → IsBody profile body → AreEntries profile (place_in body) nested
        → Reaches outer (suc depth_left) text rest (value_leaves (record { body = body; nested = nested }))
        → ((b : Brackets) (g : Gap) (nested : Entries) → IsGap profile (place_of b) g
        → AreEntries profile (place_of b) nested → (outer : ℕ) (text rest : List ℕ) (x : Written)
        → IsTrue (is_opening x.leaf) → x.text ≡ open_byte b ∷ []
        → Reaches outer (suc depth_left) text rest (x ∷ (g ++ (entries_leaves nested ++ closing (body_in b g))))
        → Stops (value_of profile (suc depth_left)) text rest)
        → Stops (value_of profile (suc depth_left)) text rest
    by (scalar w) none b i k ih =
        absurd (not_plain (w ∷ []) (value_opens profile (record { body = scalar w; nested = none }) (record {
          body = b;
          nested = i;
        })) k)
    by (scalar w) (entry name body nested after comma more) b i k ih = absurd i.0
    by (array g) nested b i k ih =
        ih brackets.Array g nested b i outer text rest (record { leaf = leaf.ArrayOpen; text = 0x5B ∷ [] }) refl refl k
    by (inline g) nested b i k ih =
        ih brackets.Inline g nested b i outer text rest (record { leaf = leaf.InlineOpen; text = 0x7B ∷ [] }) refl refl
        k

-- ---- whole values

-- what the place of a bracket says of the text
pub reaches_at : (limit : ℕ) (text : List ℕ) (at : ℕ) (all : List Written) (h : IsDeepIn limit text at all)
    → Reaches 0 limit text (drop at text) all
reaches_at limit text at all h =
    let rest = h.bracket.text ++ h.rest in
    let here : drop at text ≡ rest = ap (drop at) h.spelled ∙ drop_at (text_of h.before) rest at (sym h.at_is) in
    record {
      before = h.before;
      bracket = h.bracket;
      after = h.after;
      tail = h.rest;
      opens = h.opens;
      here = h.here;
      spelled = h.spelled ∙ ap (λ (x : List ℕ). text_of h.before ++ x) (sym here);
      occurs = here;
      deep = h.deep ∙ omega arith;
      most = omega (arith, h.first);
    }

-- two places of one text are the same if what is left there is the same
pub place_is : (limit : ℕ) (text : List ℕ) (at at' : ℕ) (all all' : List Written) → IsDeepIn limit text at all
    → IsDeepIn limit text at' all' → drop at text ≡ drop at' text → at ≡ at'
place_is limit text at at' all all' h g e =
    omega (arith, within at all h, within at' all' g, ap length e, length-drop at text, length-drop at' text)
  where
    within : (at : ℕ) (all : List Written) → IsDeepIn limit text at all → at ≤ length text
    within at all h =
        omega (arith, h.at_is, ap length h.spelled, length-append (text_of h.before) (h.bracket.text ++ h.rest))

-- A value that is too deep is read up to the bracket.
pub too_deep_value : (profile : Profile) (limit : ℕ) (text : List ℕ) (at : ℕ) → IsValueTooDeep profile limit text at
    → read_one_value profile limit text ≡ Err (Deep (drop at text))
unfolding read_one_value
too_deep_value profile limit text at h =
    let s = value_stops profile limit h.value h.valid 0 text (drop at text)
    (reaches_at limit text at (value_leaves h.value) h.deep) in
    rw s.stops refl

abbrev failed : {A : Type 0} → List ℕ → Result A Fault
failed rest = Err (Deep rest)

pub deep_is : {A : Type 0} (x y : List ℕ) → failed {A = A} x ≡ failed {A = A} y → x ≡ y
deep_is x y e = cc

-- There is at most one such bracket.
pub one_value_place : (profile : Profile) (limit : ℕ) (text : List ℕ) (at at' : ℕ)
    → IsValueTooDeep profile limit text at → IsValueTooDeep profile limit text at' → at ≡ at'
one_value_place profile limit text at at' h g =
    place_is limit text at at' (value_leaves h.value) (value_leaves g.value) h.deep g.deep
    (deep_is (drop at text) (drop at' text)
    (sym (too_deep_value profile limit text at h) ∙ too_deep_value profile limit text at' g))
