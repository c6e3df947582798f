-- What is a value within the limit is read.
--
-- The other direction of `ValueLaws`, by induction over the depth that is left; all lemmas on entries assume that the
-- values inside are read again (`ReadsAgain`). An entry is read again if what follows it may follow (`item_again`): its
-- comma, or the closing bracket. The entries are an induction over the tree (`entries_again`), where the loop goes on
-- after a comma and ends at the bracket. So for each part it has to be known which byte it begins with (`value_begins`,
-- `entries_begin`). The hard case is a comma, after which the next entry comes or the closing bracket
-- (`comma_follows`).
--
-- Theorem: `value_again`: a valid value within the limit is read, with what follows it left.
use Rattle.std.proofs.Common.{◌≡◌, ℕ, zero, suc, ◌<◌, ◌≤◌, Bool, true, false, not, ◌&&◌, ◌==◌, List, [], ◌∷◌, ◌++◌}
use Rattle.std.proofs.Common.{length, Option, Some, None, Ok, Err, refl, sym, ap, ◌∙◌, subst, arith, take_at, drop_at}
use Rattle.std.proofs.Common.{eqb-true}
use Rattle.std.proofs.lemmas.Bool.Decides.{nat_tests}
use Rattle.std.proofs.lemmas.List.{append-nil}
use Rattle.keep_types.specs.declared.leaf.Profile.{Profile}
use Rattle.keep_types.specs.declared.leaf.Profile.TheVariants.{Strict, Wide}
use Rattle.keep_token.specs.Abnf.{is_ws}
use Rattle.keep_token.specs.Scanning.{first, may_follow_scalar}
use Rattle.keep_syntax.specs.declared.info.Brackets.{Brackets}
use Rattle.keep_syntax.specs.declared.info.Brackets.TheVariants as brackets
use Rattle.keep_syntax.specs.Tree.{Written, Gap, Name, Body, scalar, array, inline, Entries, none, entry, Value}
use Rattle.keep_syntax.specs.Tree.{text_of, named_leaves, comma_leaves, entries_leaves, value_text, around}
use Rattle.keep_syntax.specs.Tree.{entries_depth, value_depth}
use Rattle.keep_syntax.specs.Grammar.{place_in, IsGap, IsNamed, IsBody, MayEndInComma, IsComma, AreEntries, IsValue}
use Rattle.keep_syntax.specs.Reading.{Deep, Read, ready, open_byte, close_byte, body_in, is_free, gap_in, join, Item}
use Rattle.keep_syntax.specs.Reading.{entry_of, named_in, after_by, item_by, iteration_of, entry_by, entries_by}
use Rattle.keep_syntax.specs.Reading.{bracket_by, value_by, value_of}
use Rattle.keep_token.proofs.Shared.{scalar_found, scalar_again}
use Rattle.keep_syntax.proofs.LoopLaws.{loop_on, loop_ready}
use Rattle.keep_syntax.proofs.SpaceLaws.{is_solid, solid_no_ws, place_of, gap_again, gap_blank, is_stop, may_follow}
use Rattle.keep_syntax.proofs.KeyLaws.{key_first_solid, is_key_first, name_again, name_begins}
use Rattle.keep_syntax.proofs.ValueLaws.{join-assoc, join-none, bracket_text, item_leaves, item_text, entry_text}
use Rattle.keep_syntax.proofs.ValueLaws.{is_scalar_first, is_value_first, value_first_solid, close_solid}
use Rattle.keep_syntax.proofs.ValueLaws.{scalar_first_at, ReadsValues, value_takes, entry_shortens}

-- ---- what values and entries begin with

pub scalar_begins : (profile : Profile) (w : Written) (rest : List ℕ) → IsBody profile (scalar w)
    → (0 < length w.text) × (is_scalar_first (first (w.text ++ rest)) ≡ true)
scalar_begins profile w rest h =
    let again = scalar_again profile w.leaf w.text [] h.0 h.1 refl in
    let some = (scalar_found profile (w.text ++ []) w.leaf (length w.text) again).1 in
    let begins = scalar_first_at profile (w.text ++ []) w.leaf (length w.text) again some in
    (some, by w.text some begins)
  where
    by : (t : List ℕ) → 0 < length t → is_scalar_first (first (t ++ [])) ≡ true
        → is_scalar_first (first (t ++ rest)) ≡ true
    by [] some k = absurd (omega arith)
    by (c ∷ cs) some k = k

pub value_begins : (profile : Profile) (v : Value) (rest : List ℕ) → IsValue profile v
    → is_value_first (first (value_text v ++ rest)) ≡ true
value_begins profile v rest h = by v.body v.nested h.body h.nested
  where
    by : (body : Body) (nested : Entries) → IsBody profile body → AreEntries profile (place_in body) nested
        → is_value_first (first (value_text (record { body = body; nested = nested }) ++ rest)) ≡ true
    by (scalar w) none b i = rw (append-nil w.text, (scalar_begins profile w rest b).1) refl
    by (scalar w) (entry name body nested after comma more) b i = absurd i.0
    by (array g) nested b i = refl
    by (inline g) nested b i = refl

-- a byte that begins an entry
abbrev pub EntryFirst : Brackets → ℕ → Type 0
EntryFirst b c = (is_solid c ≡ true) × ((c == close_byte b) ≡ false)

pub value_first_entry : (c : ℕ) → is_value_first c ≡ true → EntryFirst brackets.Array c
value_first_entry c h = (value_first_solid c h, no_close c h)
  where
    no_close : (c : ℕ) → is_value_first c ≡ true → (c == 0x5D) ≡ false
    no_close c h = grind (arith, nat_tests)

pub key_first_entry : (c : ℕ) → is_key_first c ≡ true → EntryFirst brackets.Inline c
key_first_entry c h = (key_first_solid c h, no_close c h)
  where
    no_close : (c : ℕ) → is_key_first c ≡ true → (c == 0x7D) ≡ false
    no_close c h = grind (arith, nat_tests)

pub item_begins : (profile : Profile) (b : Brackets) (i : Item) (x : List ℕ) → IsNamed profile (place_of b) i.name
    → IsValue profile i.value → EntryFirst b (first (text_of (item_leaves i) ++ x))
item_begins profile b i x named h =
    let rest = text_of i.after ++ (text_of (comma_leaves i.comma) ++ x) in
    subst (λ (t : List ℕ). EntryFirst b (first t)) (sym (item_text i x)) (by b i.name named)
  where
    by : (b : Brackets) (n : Option Name) → IsNamed profile (place_of b) n
        → EntryFirst b (first (text_of (named_leaves n)
        ++ (value_text i.value ++ (text_of i.after ++ (text_of (comma_leaves i.comma) ++ x)))))
    by brackets.Array None k =
        value_first_entry _ (value_begins profile i.value (text_of i.after ++ (text_of (comma_leaves i.comma) ++ x)) h)
    by brackets.Array (Some n) k = absurd k
    by brackets.Inline None k = absurd k
    by brackets.Inline (Some n) k =
        key_first_entry _ (name_begins profile n
        (value_text i.value ++ (text_of i.after ++ (text_of (comma_leaves i.comma) ++ x))) k)

pub entries_begin : (profile : Profile) (b : Brackets) (es : Entries) (rest : List ℕ)
    → AreEntries profile (place_of b) es → (first rest == close_byte b) ≡ true
    → is_solid (first (text_of (entries_leaves es) ++ rest)) ≡ true
entries_begin profile b none rest h closed = close_solid b rest closed
entries_begin profile b (entry name body nested after comma more) rest h closed =
    let i : Item =
    record { name = name; value = record { body = body; nested = nested }; after = after; comma = comma } in
    subst (λ (t : List ℕ). is_solid (first t) ≡ true) (sym (entry_text i more rest))
    (item_begins profile b i (text_of (entries_leaves more) ++ rest) h.0 (record { body = h.1; nested = h.2 })).0

-- ---- one entry

abbrev pub ReadsAgain : Profile → ℕ → (List ℕ → Read Value) → Type 0
ReadsAgain profile depth_left value =
    (v : Value) (rest : List ℕ) → IsValue profile v → value_depth v ≤ depth_left → may_follow_scalar rest ≡ true
    → value (value_text v ++ rest) ≡ Ok (v, rest)

-- what follows an entry
abbrev pub Follows : Profile → Brackets → Option Gap → List ℕ → Type 0
Follows profile b None rest = (first rest == close_byte b) ≡ true
Follows profile b (Some g) rest =
    IsGap profile (place_of b) g × (is_solid (first rest) ≡ true)
    × ((not (is_free profile b) && first rest == close_byte b) ≡ false)

pub record AnItem (profile : Profile) (b : Brackets) (depth_left : ℕ) (i : Item) : Type 0 where
  pub named : IsNamed profile (place_of b) i.name
  pub valid : IsValue profile i.value
  pub shallow : value_depth i.value ≤ depth_left
  pub gap : IsGap profile (place_of b) i.after

close_facts : (b : Brackets) (c : ℕ) → (c == close_byte b) ≡ true
    → (is_stop c ≡ true) × (is_solid c ≡ true) × ((c == 0x2C) ≡ false)
close_facts brackets.Array c e = let f = eqb-true c 0x5D e in (rw f refl, rw f refl, rw f refl)
close_facts brackets.Inline c e = let f = eqb-true c 0x7D e in (rw f refl, rw f refl, rw f refl)

comma_begins : (profile : Profile) (b : Brackets) (comma : Option Gap) (x : List ℕ) → Follows profile b comma x
    → (is_stop (first (text_of (comma_leaves comma) ++ x)) ≡ true)
    × (is_solid (first (text_of (comma_leaves comma) ++ x)) ≡ true)
comma_begins profile b None x h = let f = close_facts b (first x) h in (f.0, f.1)
comma_begins profile b (Some g) x h = (refl, refl)

after_again : (profile : Profile) (b : Brackets) (name : Option Name) (v : Value) (after : Gap) (comma : Option Gap)
    (x : List ℕ) → IsGap profile (place_of b) after → Follows profile b comma x
    → after_by profile b name v (gap_in profile b (text_of after ++ (text_of (comma_leaves comma) ++ x)))
    ≡ Ok (record { name = name; value = v; after = after; comma = comma }, x)
after_again profile b name v after None x gap h =
    let f = close_facts b (first x) h in
    rw (gap_again profile b after x gap f.1, f.2, h) refl
after_again profile b name v after (Some g) x gap h =
    rw (gap_again profile b after (0x2C ∷ (text_of g ++ x)) gap refl, gap_again profile b g x h.0 h.1, h.2) refl

pub named_again : (profile : Profile) (b : Brackets) (n : Option Name) (x : List ℕ) → IsNamed profile (place_of b) n
    → is_ws (first x) ≡ false → named_in profile b (text_of (named_leaves n) ++ x) ≡ Ok (n, x)
named_again profile brackets.Array None x h stop = refl
named_again profile brackets.Array (Some n) x h stop = absurd h
named_again profile brackets.Inline None x h stop = absurd h
named_again profile brackets.Inline (Some n) x h stop = rw (name_again profile n x h stop) refl

pub item_again : (profile : Profile) (b : Brackets) (depth_left : ℕ) (value : List ℕ → Read Value)
    → ReadsAgain profile depth_left value → (i : Item) (x : List ℕ) → AnItem profile b depth_left i
    → Follows profile b i.comma x → item_by profile b value (text_of (item_leaves i) ++ x) ≡ Ok (i, x)
unfolding item_by
item_again profile b depth_left value again i x h follows =
    let t2 = text_of (comma_leaves i.comma) ++ x in
    let t1 = text_of i.after ++ t2 in
    let t0 = value_text i.value ++ t1 in
    let (stop, solid) = comma_begins profile b i.comma x follows in
    let begins = value_begins profile i.value t1 h.valid in
    let one : named_in profile b (text_of (named_leaves i.name) ++ t0) ≡ Ok (i.name, t0) =
    named_again profile b i.name t0 h.named (solid_no_ws (first t0) (value_first_solid (first t0) begins)) in
    let two : value t0 ≡ Ok (i.value, t1) =
    again i.value t1 h.valid h.shallow (may_follow i.after t2 (gap_blank profile b i.after h.gap) stop) in
    let three : after_by profile b i.name i.value (gap_in profile b t1) ≡ Ok (i, x) =
    after_again profile b i.name i.value i.after i.comma x h.gap follows in
    rw (item_text i x, one, two) three

-- ---- entries

-- a comma before what follows
comma_follows : (profile : Profile) (b : Brackets) (depth_left : ℕ) (comma : Option Gap) (more : Entries)
    (rest : List ℕ) → IsComma profile (place_of b) comma more → AreEntries profile (place_of b) more
    → (first rest == close_byte b) ≡ true
    → Follows profile b comma (text_of (entries_leaves more) ++ rest)
comma_follows profile b depth_left None none rest c h closed = closed
comma_follows profile b depth_left None (entry name body nested after comma more) rest c h closed = absurd c
comma_follows profile b depth_left (Some g) none rest c h closed = (c.0, close_solid b rest closed, free profile b c.1)
  where
    free : (profile : Profile) (b : Brackets) → MayEndInComma profile (place_of b)
        → (not (is_free profile b) && first rest == close_byte b) ≡ false
    free Strict brackets.Array k = refl
    free Wide brackets.Array k = refl
    free Strict brackets.Inline k = absurd k
    free Wide brackets.Inline k = refl
comma_follows profile b depth_left (Some g) (entry name body nested after comma more) rest c h closed =
    let i : Item =
    record { name = name; value = record { body = body; nested = nested }; after = after; comma = comma } in
    let f : EntryFirst b (first (text_of (entries_leaves (entry_of i more)) ++ rest)) =
    subst (λ (t : List ℕ). EntryFirst b (first t)) (sym (entry_text i more rest))
    (item_begins profile b i (text_of (entries_leaves more) ++ rest) h.0 (record { body = h.1; nested = h.2 })) in
    (c, f.0, rw f.1 (never (not (is_free profile b))))
  where
    never : (x : Bool) → (x && false) ≡ false
    never true = refl
    never false = refl

pub iteration_again : (profile : Profile) (b : Brackets) (depth_left : ℕ) (value : List ℕ → Read Value)
    → ReadsAgain profile depth_left value → (prefix : Entries) (i : Item) (x : List ℕ) → AnItem profile b depth_left i
    → Follows profile b i.comma x
    → entry_by profile b value prefix (text_of (item_leaves i) ++ x) ≡ Ok (iteration_of prefix i i.comma, x)
unfolding entry_by
iteration_again profile b depth_left value again prefix i x h follows =
    let f = item_begins profile b i x h.named h.valid in
    rw (f.1, item_again profile b depth_left value again i x h follows) refl

pub entries_again : (profile : Profile) (b : Brackets) (depth_left : ℕ) (value : List ℕ → Read Value)
    → ReadsValues profile depth_left value → ReadsAgain profile depth_left value → (es prefix : Entries) (rest : List ℕ)
    → AreEntries profile (place_of b) es → entries_depth es ≤ depth_left → (first rest == close_byte b) ≡ true
    → entries_by profile b value prefix (text_of (entries_leaves es) ++ rest) ≡ Ok (join prefix es, rest)
unfolding entry_by
entries_again profile b depth_left value sound again none prefix rest h le closed =
    let iteration : entry_by profile b value prefix rest ≡ Ok (ready prefix, rest) = rw closed refl in
    loop_ready (entry_by profile b value) prefix rest (join prefix none) rest
    (iteration ∙ ap (λ (x : Entries). Ok (ready x, rest)) (sym (join-none prefix)))
entries_again profile b depth_left value sound again (entry name body nested after comma more) prefix rest h le closed =
    let i : Item =
    record { name = name; value = record { body = body; nested = nested }; after = after; comma = comma } in
    let x = text_of (entries_leaves more) ++ rest in
    let an : AnItem profile b depth_left i =
    record { named = h.0; valid = record { body = h.1; nested = h.2 }; shallow = omega arith; gap = h.3 } in
    let iteration : entry_by profile b value prefix (text_of (item_leaves i) ++ x)
    ≡ Ok (iteration_of prefix i comma, x) =
    iteration_again profile b depth_left value again prefix i x an
    (comma_follows profile b depth_left comma more rest h.4 h.5 closed) in
    ap (entries_by profile b value prefix) (entry_text i more rest)
    ∙ by i comma more iteration h.4
    (λ prefix'. entries_again profile b depth_left value sound again more prefix' rest h.5 (omega arith) closed)
  where
    by : (i : Item) (c : Option Gap) (more : Entries)
        → entry_by profile b value prefix (text_of (item_leaves i) ++ (text_of (entries_leaves more) ++ rest))
        ≡ Ok (iteration_of prefix i c, text_of (entries_leaves more) ++ rest) → IsComma profile (place_of b) c more
        → ((prefix' : Entries)
        → entries_by profile b value prefix' (text_of (entries_leaves more) ++ rest) ≡ Ok (join prefix' more, rest))
        → entries_by profile b value prefix (text_of (item_leaves i) ++ (text_of (entries_leaves more) ++ rest))
        ≡ Ok (join prefix (entry_of i more), rest)
    by i None none iteration c ih =
        loop_ready (entry_by profile b value) prefix (text_of (item_leaves i) ++ rest) (join prefix (entry_of i none))
        rest iteration
    by i None (entry name body nested after comma more) iteration c ih = absurd c
    by i (Some g) more iteration c ih =
        let x = text_of (entries_leaves more) ++ rest in
        loop_on (entry_by profile b value) (entry_shortens profile b depth_left value sound) prefix
        (text_of (item_leaves i) ++ x) (join prefix (entry_of i none)) x iteration
        ∙ ih (join prefix (entry_of i none))
        ∙ ap (λ (es : Entries). Ok (es, rest)) (join-assoc prefix (entry_of i none) more)

-- ---- values

bracket_again : (profile : Profile) (depth_left : ℕ) (value : List ℕ → Read Value)
    → ReadsValues profile depth_left value → ReadsAgain profile depth_left value
    → (b : Brackets) (g : Gap) (nested : Entries) (rest : List ℕ)
    → IsGap profile (place_of b) g → AreEntries profile (place_of b) nested → entries_depth nested ≤ depth_left
    → bracket_by profile value b (open_byte b
    ∷ (text_of g ++ (text_of (entries_leaves nested) ++ (close_byte b ∷ rest))))
    ≡ Ok (record { body = body_in b g; nested = nested }, rest)
bracket_again profile depth_left value sound again b g nested rest gap i le =
    let z = close_byte b ∷ rest in
    let x = text_of (entries_leaves nested) ++ z in
    let closed : (first z == close_byte b) ≡ true = closes b in
    let one : gap_in profile b (text_of g ++ x) ≡ (g, x) =
    gap_again profile b g x gap (entries_begin profile b nested z i closed) in
    let two : entries_by profile b value none x ≡ Ok (nested, z) =
    entries_again profile b depth_left value sound again nested none z i le closed in
    rw (one, two) refl
  where
    closes : (b : Brackets) → (close_byte b == close_byte b) ≡ true
    closes brackets.Array = refl
    closes brackets.Inline = refl

scalar_facts : (c : ℕ) → is_scalar_first c ≡ true → ((c == 0x5B) ≡ false) × ((c == 0x7B) ≡ false)
scalar_facts c h = (grind (arith, nat_tests), grind (arith, nat_tests))

scalar_reads : (profile : Profile) (bracket : Brackets → List ℕ → Read Value) (w : Written) (rest : List ℕ)
    → IsBody profile (scalar w) → may_follow_scalar rest ≡ true
    → value_by profile bracket ((w.text ++ []) ++ rest) ≡ Ok (record { body = scalar w; nested = none }, rest)
scalar_reads profile bracket w rest h stop =
    let f = scalar_facts (first (w.text ++ rest)) (scalar_begins profile w rest h).1 in
    rw (
      append-nil w.text,
      f.0,
      f.1,
      scalar_again profile w.leaf w.text rest h.0 h.1 stop,
      take_at w.text rest (length w.text) refl,
      drop_at w.text rest (length w.text) refl,
    ) refl

-- What is a value within the limit is read, before what does not continue with it.
pub value_again : (profile : Profile) (depth_left : ℕ) → ReadsAgain profile depth_left (value_of profile depth_left)
unfolding value_of
value_again profile zero v rest h le stop = by v.body v.nested h.body h.nested le
  where
    by : (body : Body) (nested : Entries) → IsBody profile body → AreEntries profile (place_in body) nested
        → around body (entries_depth nested) ≤ 0
        → value_of profile 0 (value_text (record { body = body; nested = nested }) ++ rest)
        ≡ Ok (record { body = body; nested = nested }, rest)
    by (scalar w) none b i le = scalar_reads profile (λ b t. Err (Deep t)) w rest b stop
    by (scalar w) (entry name body nested after comma more) b i le = absurd i.0
    by (array g) nested b i le = absurd (omega arith)
    by (inline g) nested b i le = absurd (omega arith)
value_again profile (suc depth_left) v rest h le stop =
    by v.body v.nested h.body h.nested le
    (bracket_again profile depth_left (value_of profile depth_left) (value_takes profile depth_left)
    (value_again profile depth_left))
  where
    by : (body : Body) (nested : Entries) → IsBody profile body → AreEntries profile (place_in body) nested
        → around body (entries_depth nested) ≤ suc depth_left
        → ((b : Brackets) (g : Gap) (nested : Entries) (rest : List ℕ) → IsGap profile (place_of b) g
        → AreEntries profile (place_of b) nested → entries_depth nested ≤ depth_left
        → bracket_by profile (value_of profile depth_left) b
        (open_byte b ∷ (text_of g ++ (text_of (entries_leaves nested) ++ (close_byte b ∷ rest))))
        ≡ Ok (record { body = body_in b g; nested = nested }, rest))
        → value_of profile (suc depth_left) (value_text (record { body = body; nested = nested }) ++ rest)
        ≡ Ok (record { body = body; nested = nested }, rest)
    by (scalar w) none b i le ih = scalar_reads profile (bracket_by profile (value_of profile depth_left)) w rest b stop
    by (scalar w) (entry name body nested after comma more) b i le ih = absurd i.0
    by (array g) nested b i le ih =
        ap (value_of profile (suc depth_left)) (bracket_text brackets.Array g nested rest)
        ∙ ih brackets.Array g nested rest b i (omega arith)
    by (inline g) nested b i le ih =
        ap (value_of profile (suc depth_left)) (bracket_text brackets.Inline g nested rest)
        ∙ ih brackets.Inline g nested rest b i (omega arith)
