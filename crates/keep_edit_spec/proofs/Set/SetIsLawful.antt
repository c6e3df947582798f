-- The law of `set`, whole; and the text that `get` gives.
--
-- That nothing is refused means four facts, of the node, its value, the depth and the profile (`settable`). They are
-- what the parts of the law want: a change exists where there is a value (`set_changes`), it is done at the value of
-- the path alone (`set_done`), so the depth is that of the new value or of what is beside it (`set_depth`), and the
-- text grows by no more than the new value's (`set_growth`). The text that `get` gives is what `set` would replace,
-- since the two cut at the same place (`own_cut`).
--
-- Theorems: `set_is_lawful` and `get_is_right`.
use Rattle.std.proofs.Common.{◌≡◌, ℕ, ◌+◌, ◌≤◌, Bool, true, false, not, List, [], ◌∷◌, ◌++◌, length, refl, sym, ap}
use Rattle.std.proofs.Common.{subst, ◌∙◌, length-append, arith, Option, Some, None}
use Rattle.std.proofs.lemmas.Option.{same_Some}
use Rattle.std.specs.Prelude.{nat_lt}
use Rattle.std.specs.Option.{option_map}
use Rattle.keep_types.specs.declared.leaf.Profile.{Profile}
use Rattle.keep_types.specs.declared.leaf.Profile.TheVariants.{Wide}
use Rattle.keep_syntax.specs.Tree.{Value, Document, text, value_text, value_depth, depth}
use Rattle.keep_syntax.specs.Grammar.{IsValue, IsDocument, Reads}
use Rattle.keep_syntax.specs.Profiles.{is_allowed_in}
use Rattle.keep_syntax.proofs.Shared.{allowed_value}
use Rattle.keep_meaning.specs.Fact.{Fact, is_value_fact}
use Rattle.keep_path.specs.Path.{Part}
use Rattle.keep_meaning.specs.Rules.{ObeysRules}
use Rattle.keep_meaning.specs.Marks.{Mention, marks}
use Rattle.keep_meaning.specs.Meaning.{mentions_in, mentions_of_value, body_fact}
use Rattle.keep_meaning.specs.Nodes.{is_node, fact_at}
use Rattle.keep_path.specs.PathText.{encoded_path}
use Rattle.keep_edit_spec.specs.declared.fault.EditFault.TheVariants as fault
use Rattle.keep_edit_spec.specs.Look.{enclosing}
use Rattle.keep_edit_spec.specs.Changed.{Changed, IsChangeOf, place_of, put}
use Rattle.keep_edit_spec.specs.Values.{Act, replacement, text_of_value}
use Rattle.keep_edit_spec.specs.Edits.{Edit, set, change, changed_or_same, nested}
use Rattle.keep_edit_spec.specs.Refusals.{refusal, refusal_by, has_value, first_that_holds}
use Rattle.keep_edit_spec.specs.Answers.{value_at}
use Rattle.keep_edit_spec.specs.Laws.{GivesText}
use Rattle.keep_edit_spec.proofs.Common.Runs.{Rules}
use Rattle.std.proofs.lemmas.Bool.{ltb-false}
use Rattle.std.proofs.lemmas.List.{append-nil}
use Rattle.keep_edit_spec.proofs.Common.Texts.{EachIs, IsAct, replacement-is}
use Rattle.keep_edit_spec.proofs.Common.LineTexts.{change-is, nested-is}
use Rattle.keep_edit_spec.proofs.Common.SetWhole.{IsSetWhole, EachChange}
use Rattle.keep_edit_spec.proofs.Common.Marks.{set_is_right, rules_of_document}
use Rattle.keep_edit_spec.proofs.Common.ValueThere.{IsSome, the_some, some_nested, alone_of_has}
use Rattle.keep_edit_spec.proofs.Common.DoneAtValue.{EachOf, IsDoneAt, IsAtEnd, value_fact-body}
use Rattle.keep_edit_spec.proofs.Common.DoneInDocument.{done_nested}
use Rattle.keep_edit_spec.proofs.Set.SameCuts.{SameCut, AreSameActs, cut_nested}

pub ends_replacement : (new : Value) → IsAtEnd (replacement new)
ends_replacement new p ps v = refl

-- ---- what it means that nothing is refused

pub record IsSettable (profile : Profile) (limit : ℕ) (path : List Part) (new : Value) (ms : List Mention) : Type
    0 where
  pub node : is_node path ms ≡ true
  pub valued : has_value path ms ≡ true
  pub shallow : enclosing path ms + value_depth new ≤ limit
  pub suits : is_allowed_in profile new ≡ true

pub settable : (profile : Profile) (limit : ℕ) (path : List Part) (new : Value) (ms : List Mention)
    → refusal_by profile limit ms (set path new) ≡ None → IsSettable profile limit path new ms
settable profile limit path new ms h =
    by (is_node path ms) (has_value path ms) (nat_lt limit (enclosing path ms + value_depth new))
    (is_allowed_in profile new) refl refl refl refl h
  where
    by : (a b c d : Bool) → is_node path ms ≡ a → has_value path ms ≡ b
        → nat_lt limit (enclosing path ms + value_depth new) ≡ c → is_allowed_in profile new ≡ d
        → first_that_holds ((not a, fault.NotFound) ∷ (not b, fault.NotValue) ∷ (c, fault.TooDeep)
        ∷ (not d, fault.Profile) ∷ []) ≡ None
        → IsSettable profile limit path new ms
    by false b c d ea eb ec ed h = absurd cc
    by true false c d ea eb ec ed h = absurd cc
    by true true true d ea eb ec ed h = absurd cc
    by true true false false ea eb ec ed h = absurd cc
    by true true false true ea eb ec ed h =
        record {
          node = ea;
          valued = eb;
          shallow = ltb-false limit (enclosing path ms + value_depth new) ec;
          suits = ed;
        }

-- ---- set

-- A change exists.
pub set_exists : (path : List Part) (new : Value) (s : Document) → Rules (mentions_in s)
    → has_value path (mentions_in s) ≡ true → IsSome (change s (set path new))
set_exists path new s rules h =
    some_nested (replacement new) (λ v. tt) path s rules (alone_of_has path (mentions_in s) h)

pub set_changes : (profile : Profile) (limit : ℕ) (s : Document) (path : List Part) (new : Value)
    → ObeysRules (marks (mentions_in s)) → refusal profile limit s (set path new) ≡ None
    → (c : Changed Document) × (change s (set path new) ≡ Some c)
set_changes profile limit s path new obeys h =
    the_some (change s (set path new))
    (set_exists path new s (rules_of_document s obeys) (settable profile limit path new (mentions_in s) h).valued)

the_of : {A : Type 0} (P : Changed A → Type 0) (o : Option (Changed A)) (c : Changed A) → o ≡ Some c → EachOf P o → P c
the_of P o c e h = subst (λ o. EachOf P o) e h

change_is : (o : Option (Changed Document)) (s : Document) (c : Changed Document) → o ≡ Some c → EachIs text s o
    → IsChangeOf text s c
change_is o s c e h = subst (λ o. EachIs text s o) e h

whole_of : (profile : Profile) (s : Document) (e : Edit) (o : Option (Changed Document)) (c : Changed Document)
    → o ≡ Some c → EachChange (IsSetWhole profile s e) o → IsSetWhole profile s e c
whole_of profile s e o c k h = subst (λ o. EachChange (IsSetWhole profile s e) o) k h

-- What is done with `set` is done at the value of the path.
pub set_done : (path : List Part) (new : Value) (s : Document) (c : Changed Document) → Rules (mentions_in s)
    → change s (set path new) ≡ Some c → IsDoneAt (replacement new) path (mentions_in s) depth s c
set_done path new s c rules e =
    the_of (IsDoneAt (replacement new) path (mentions_in s) depth s) (change s (set path new)) c e
    (done_nested (replacement new) (ends_replacement new) path s rules)

the_done : (new v : Value) (d : Changed Value) → replacement new [] v ≡ Some d
    → (d.to ≡ new) × (d.old ≡ text_of_value v) × (d.new ≡ text_of_value new)
the_done new v d e =
    let x : Changed Value =
    record { to = new; before = []; old = text_of_value v; new = text_of_value new; after = [] } in
    let k : x ≡ d = same_Some x d e in (
      sym (ap (λ (c : Changed Value). c.to) k),
      sym (ap (λ (c : Changed Value). c.old) k),
      sym (ap (λ (c : Changed Value). c.new) k),
    )

-- The new document is no deeper than the limit.
pub set_depth : (profile : Profile) (limit : ℕ) (path : List Part) (new : Value) (s : Document) (c : Changed Document)
    → Rules (mentions_in s) → depth s ≤ limit → refusal profile limit s (set path new) ≡ None
    → change s (set path new) ≡ Some c → depth c.to ≤ limit
set_depth profile limit path new s c rules shallow h e =
    let k = set_done path new s c rules e in
    let (to, old, fresh) = the_done new k.value k.done k.by in
    let d : value_depth k.done.to ≡ value_depth new = ap value_depth to in
    let m = settable profile limit path new (mentions_in s) h in
    omega (arith, k.depth, d, m.shallow, shallow)

-- The text grows by no more than the text of the value.
pub set_growth : (path : List Part) (new : Value) (s : Document) (c : Changed Document) → Rules (mentions_in s)
    → change s (set path new) ≡ Some c → length (text c.to) ≤ length (text s) + length (value_text new)
set_growth path new s c rules e =
    let k = set_done path new s c rules e in
    let (to, old, fresh) = the_done new k.value k.done k.by in
    let h : IsChangeOf text s c = change_is (change s (set path new)) s c e (change-is s (set path new)) in
    let n : length c.new ≡ length (value_text new) = ap (λ (l : List ℕ). length l) (k.new ∙ fresh) in
    omega (
      arith,
      n,
      ap (λ (l : List ℕ). length l) h.was,
      ap (λ (l : List ℕ). length l) h.is,
      length-append c.before (c.old ++ c.after),
      length-append c.before (c.new ++ c.after),
      length-append c.old c.after,
      length-append c.new c.after,
    )

-- The law of `set`: where nothing is refused there is a change, and the new document has all that it should.
pub record IsSetLawful (profile : Profile) (limit : ℕ) (s : Document) (path : List Part) (new : Value)
    (c : Changed Document) : Type 0 where
  pub is : change s (set path new) ≡ Some c
  pub whole : IsSetWhole profile s (set path new) c
  pub shallow : depth c.to ≤ limit
  pub reads : Reads profile limit (put (text s) (place_of c)) c.to
  pub growth : length (text c.to) ≤ length (text s) + length (encoded_path path) + length (value_text new) + 12

pub set_is_lawful : (profile : Profile) (limit : ℕ) (s : Document) (path : List Part) (new : Value)
    → IsDocument profile s → depth s ≤ limit → ObeysRules (marks (mentions_in s))
    → IsValue Wide new → ObeysRules (marks (mentions_of_value new)) → refusal profile limit s (set path new) ≡ None
    → (c : Changed Document) × IsSetLawful profile limit s path new c
set_is_lawful profile limit s path new valid shallow obeys value_wide value_obeys h =
    let rules : Rules (mentions_in s) = rules_of_document s obeys in
    let value_valid : IsValue profile new =
    allowed_value profile new value_wide (settable profile limit path new (mentions_in s) h).suits in
    let (c, e) = set_changes profile limit s path new obeys h in
    let whole : IsSetWhole profile s (set path new) c =
    whole_of profile s (set path new) (change s (set path new)) c e
    (set_is_right profile s path new valid obeys value_valid value_obeys) in
    let low : depth c.to ≤ limit = set_depth profile limit path new s c rules shallow h e in (
      c,
      record {
        is = e;
        whole = whole;
        shallow = low;
        reads = record { valid = whole.valid; spelled = sym whole.spelled; shallow = low };
        growth = omega (arith, set_growth path new s c rules e);
      },
    )

-- ---- the text that `get` gives

abbrev own_text : Act
own_text more v = replacement v more v

own_text-is : IsAct own_text
own_text-is path v = replacement-is v path v

has_of : (path : List Part) (ms : List Mention) (v : Value) → fact_at (path ++ []) ms ≡ fact_at [] (mentions_of_value v)
    → has_value path ms ≡ true
has_of path ms v h =
    let e : fact_at path ms ≡ Some (body_fact v.body) =
    ap (λ (x : List Part). fact_at x ms) (sym (append-nil path)) ∙ h in
    ap (λ (o : Option Fact). elim o [ None ↦ false | Some f ↦ is_value_fact f ]) e ∙ value_fact-body v.body

own_cut : (new : Value) → AreSameActs own_text (replacement new)
own_cut new [] v = (refl, refl)
own_cut new (p ∷ ps) v = tt

-- a value is set where the text is
placed : (path : List Part) (s : Document) (new : Value) (c : Changed Document) (o : Option (Changed Document))
    → SameCut (Some c) o → EachOf (IsDoneAt (replacement new) path (mentions_in s) depth s) o
    → place_of (changed_or_same s o)
    ≡ record { start = length c.before; end = length c.before + length c.old; new = value_text new }
placed path s new c None h d = absurd h
placed path s new c (Some x) h d =
    let (to, old, fresh) = the_done new d.value d.done d.by in
    ap (λ (z : List ℕ). record { start = length z; end = length z + length x.old; new = x.new }) (sym h.0)
    ∙ ap (λ (z : List ℕ). record { start = length c.before; end = length c.before + length z; new = x.new }) (sym h.1)
    ∙ ap (λ (z : List ℕ). record { start = length c.before; end = length c.before + length c.old; new = z })
    (d.new ∙ fresh)

gives_by : (path : List Part) (s : Document) (b : Bool) (o : Option (Changed Document))
    → has_value path (mentions_in s) ≡ b → (b ≡ true → IsSome o)
    → EachOf (IsDoneAt own_text path (mentions_in s) depth s) o → EachIs text s o
    → ((new : Value) → SameCut o (change s (set path new)))
    → ((new : Value) → EachOf (IsDoneAt (replacement new) path (mentions_in s) depth s) (change s (set path new)))
    → GivesText path s b (option_map (λ c. c.old) o)
gives_by path s true None e f d i cuts done = absurd (f refl)
gives_by path s false None e f d i cuts done = refl
gives_by path s false (Some c) e f d i cuts done =
    let k : false ≡ true = sym e ∙ has_of path (mentions_in s) d.value (d.facts []) in absurd cc
gives_by path s true (Some c) e f d i cuts done =
    let (to, old, fresh) = the_done d.value d.value d.done d.by in (
      c.old,
      refl,
      record {
        value = d.value;
        spelled = d.old ∙ old;
        facts = d.facts;
        before = c.before;
        after = c.after;
        here = i.was;
        set_there = λ new. placed path s new c (change s (set path new)) (cuts new) (done new);
      },
    )

pub get_is_right : (path : List Part) (s : Document) → ObeysRules (marks (mentions_in s))
    → GivesText path s (has_value path (mentions_in s)) (value_at path s)
get_is_right path s obeys =
    let rules : Rules (mentions_in s) = rules_of_document s obeys in
    gives_by path s (has_value path (mentions_in s)) (nested own_text path s) refl
    (λ h. some_nested own_text (λ v. tt) path s rules (alone_of_has path (mentions_in s) h))
    (done_nested own_text (λ p ps v. refl) path s rules)
    (nested-is own_text own_text-is path s)
    (λ new. cut_nested own_text (replacement new) (own_cut new) path s)
    (λ new. done_nested (replacement new) (ends_replacement new) path s rules)
