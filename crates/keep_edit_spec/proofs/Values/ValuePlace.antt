-- The value at a path is the one of its node's number in the list of all values: its text, its place, and the place of
-- `set`.
--
-- Values and mentions of values come in the same order, so the i-th mention belongs to the i-th value. `found_at` takes
-- from the search of an act which mention its value has, and so its number (`found_nested` of another file). An act
-- that changes nothing (`own_text`) turns this into facts of the value itself: its fact, its leaf, its span and its
-- text (`value_of_path`). A value with the node's number exists exactly if the document has a value at the path
-- (`has_of_number`, `none_of_number`). For `set` the change is the whole value, from its first byte to its last
-- (`set_placed`).
--
-- Theorems: `value_of_number`: a node's number gives the value at its path; `set_place`: where `set` changes the text.
use Rattle.std.proofs.Common.{◌≡◌, ℕ, zero, suc, ◌+◌, ◌-◌, Bool, true, false, List, [], ◌∷◌, ◌++◌, length, slice_get}
use Rattle.std.proofs.Common.{refl, sym, ap, subst, ◌∙◌, arith, Option, Some, None}
use Rattle.std.proofs.lemmas.Option.{same_Some}
use Rattle.keep_types.proofs.Shared.{one_of_two}
use Rattle.std.specs.List.{AllZip}
use Rattle.std.specs.Option.{option_map}
use Rattle.std.proofs.lemmas.List.{append-nil}
use Rattle.std.proofs.lemmas.List.Elements.{filter-append}
use Rattle.keep_types.specs.declared.leaf.Profile.{Profile}
use Rattle.keep_types.specs.declared.syntax.Span.{Span}
use Rattle.keep_types.specs.declared.syntax.ValueInfo.{ValueInfo}
use Rattle.keep_syntax.specs.Tree.{Body, Value, Document, text, value_text, depth}
use Rattle.keep_syntax.specs.Grammar.{IsValue, IsDocument}
use Rattle.keep_syntax.specs.Numbered as syntax
use Rattle.keep_syntax.specs.Numbered.{leaf_of}
use Rattle.keep_meaning.specs.Fact.{Fact, is_value_fact}
use Rattle.keep_meaning.specs.KeyText.{text_at}
use Rattle.keep_path.specs.Path.{Part}
use Rattle.keep_meaning.specs.Rules.{ObeysRules}
use Rattle.keep_meaning.specs.Marks.{MentionKind, Mention, marks, fact_of}
use Rattle.keep_meaning.specs.Meaning.{body_fact, mentions_in}
use Rattle.keep_meaning.specs.Counts.{is_value, numbered_in}
use Rattle.keep_meaning.specs.Nodes.{fact_at, numbered_at, last_number, value_number}
use Rattle.keep_meaning.proofs.Shared.{IsPart, part_taken, valued}
use Rattle.keep_edit_spec.specs.Changed.{Changed, Place, IsChangeOf, place_of}
use Rattle.keep_edit_spec.specs.Values.{Act, replacement}
use Rattle.keep_edit_spec.specs.Edits.{set, change, nested, changed_or_same, place}
use Rattle.keep_edit_spec.specs.Refusals.{has_value}
use Rattle.keep_edit_spec.specs.Answers.{value_at}
use Rattle.keep_edit_spec.proofs.Common.Runs.{Rules}
use Rattle.keep_edit_spec.proofs.Common.Texts.{EachIs, IsAct, replacement-is}
use Rattle.keep_edit_spec.proofs.Common.LineTexts.{nested-is}
use Rattle.keep_edit_spec.proofs.Common.Marks.{rules_of_document}
use Rattle.keep_edit_spec.proofs.Common.ValueThere.{the_some, some_nested, alone_of_has, fact_of_has}
use Rattle.keep_edit_spec.proofs.Common.DoneAtValue.{EachOf, IsAtEnd, IsDoneAt, value_fact-body}
use Rattle.keep_edit_spec.proofs.Common.DoneInDocument.{done_nested}
use Rattle.keep_edit_spec.proofs.Set.SetIsLawful.{ends_replacement, set_exists}
use Rattle.keep_edit_spec.proofs.Common.ValuesMention.{value_mention_kinds, mention_kinds-append, length-mention_kinds}
use Rattle.keep_edit_spec.proofs.Common.ValuesMention.{states_value, value_mentions, length-mentions, IsStatedBy}
use Rattle.keep_edit_spec.proofs.Common.ValuesMention.{values_mention}
use Rattle.keep_edit_spec.proofs.Common.FoundValue.{IsFoundIn, Valid_document, found_nested}
use Rattle.keep_edit_spec.proofs.Common.ValueNumber.{number_of_value, fact_of_value, alone_of_number}

-- ---- by number

pub get_here : {A : Type 0} (prefix : List A) (x : A) (after : List A) (n : ℕ) → n ≡ length prefix
    → slice_get (prefix ++ x ∷ after) n ≡ Some x
get_here [] x after n e = ap (slice_get (x ∷ after)) e
get_here (y ∷ prefix) x after zero e = absurd (omega arith)
get_here (y ∷ prefix) x after (suc n) e = get_here prefix x after n (omega arith)

pub zip_at : {A B : Type 0} (R : A → B → Type 0) (xs : List A) (ys : List B) (n : ℕ) (x : A) (y : B) → AllZip R xs ys
    → slice_get xs n ≡ Some x → slice_get ys n ≡ Some y → R x y
zip_at R [] ys n x y all e f = absurd cc
zip_at R (a ∷ xs) [] n x y all e f = absurd all
zip_at {A} {B} R (a ∷ xs) (b ∷ ys) zero x y all e f =
    subst (λ (z : A). R z y) (let same : a ≡ x = cc in same)
    (subst (λ (z : B). R a z) (let same : b ≡ y = cc in same) all.0)
zip_at R (a ∷ xs) (b ∷ ys) (suc n) x y all e f = zip_at R xs ys n x y all.1 e f

the_of : {A : Type 0} (P : Changed A → Type 0) (o : Option (Changed A)) (c : Changed A) → o ≡ Some c → EachOf P o → P c
the_of P o c e h = subst (λ o. EachOf P o) e h

change_of : (o : Option (Changed Document)) (s : Document) (c : Changed Document) → o ≡ Some c → EachIs text s o
    → IsChangeOf text s c
change_of o s c e h = subst (λ o. EachIs text s o) e h

-- ---- where an act is done, at the end of the path

-- The change is what is done at the value with this number, of which this is said.
pub record IsFoundAt (act : Act) (path : List Part) (s : Document) (c : Changed Document) : Type 0 where
  pub value : Value
  pub done : Changed Value
  pub by : act [] value ≡ Some done
  pub old : c.old ≡ done.old
  pub new : c.new ≡ done.new
  pub number : ℕ
  pub is : last_number is_value value_number (numbered_at path (numbered_in s)) ≡ Some number
  pub own : ValueInfo
  pub here : slice_get (syntax.values s) number ≡ Some own
  pub start : length c.before ≡ own.span.start + length done.before
  pub end : own.span.end ≡ own.span.start + length (value_text value)
  pub kind : MentionKind
  pub mentioned : slice_get (value_mention_kinds (mentions_in s)) number ≡ Some kind
  pub mention : Mention
  pub place : mention.path ≡ path
  pub mention_listed : slice_get (value_mentions (mentions_in s)) number ≡ Some mention
  pub fact : (f g : Fact) → fact_of kind ≡ Some g → fact_at path (mentions_in s) ≡ Some f → is_value_fact f ≡ true
      → f ≡ g

mention_kinds-head : (m : Mention) (ms : List Mention) → is_value m.kind ≡ true
    → value_mention_kinds (m ∷ ms) ≡ m.kind ∷ value_mention_kinds ms
mention_kinds-head m ms e = rw e refl

mentions-head : (m : Mention) (ms : List Mention) → is_value m.kind ≡ true
    → value_mentions (m ∷ ms) ≡ m ∷ value_mentions ms
mentions-head m ms e = rw e refl

found_at-by : (act : Act) → IsAtEnd act → (path : List Part) (s : Document) → Rules (mentions_in s)
    → (c : Changed Document) (h : IsFoundIn act (Valid_document s) 0 path (mentions_in s) (syntax.values s) c)
    (more : List Part) → h.more ≡ more
    → IsFoundAt act path s c
found_at-by act ends path s rules c h (p ∷ ps) e =
    let k : None ≡ Some h.done = sym (ends p ps h.value) ∙ ap (λ q. act q h.value) (sym e) ∙ h.by in absurd cc
found_at-by act ends path s rules c h [] e =
    let place : h.mention.path ≡ path =
    sym (append-nil h.mention.path) ∙ ap (λ q. h.mention.path ++ q) (sym e) ∙ sym h.place in
    let mention_kind : value_mention_kinds (mentions_in s) ≡ value_mention_kinds h.earlier ++ h.mention.kind
    ∷ value_mention_kinds h.later =
    ap value_mention_kinds h.mentioned ∙ mention_kinds-append h.earlier (h.mention ∷ h.later)
    ∙ ap (λ l. value_mention_kinds h.earlier ++ l) (mention_kinds-head h.mention h.later h.tells) in
    let mentions : value_mentions (mentions_in s) ≡ value_mentions h.earlier ++ h.mention ∷ value_mentions h.later =
    ap value_mentions h.mentioned ∙ filter-append states_value h.earlier (h.mention ∷ h.later)
    ∙ ap (λ l. value_mentions h.earlier ++ l) (mentions-head h.mention h.later h.tells) in
    record {
      value = h.value;
      done = h.done;
      by = ap (λ q. act q h.value) (sym e) ∙ h.by;
      old = h.old;
      new = h.new;
      number = valued h.earlier;
      is = number_of_value path s h.earlier h.mention h.later rules h.mentioned place h.tells;
      own = h.own;
      here = ap (λ l. slice_get l (valued h.earlier)) h.here
          ∙ get_here h.prefix h.own h.after (valued h.earlier) h.count;
      start = omega (arith, h.start);
      end = h.end;
      kind = h.mention.kind;
      mentioned =
          ap (λ l. slice_get l (valued h.earlier)) mention_kind
          ∙ get_here (value_mention_kinds h.earlier) h.mention.kind (value_mention_kinds h.later) (valued h.earlier)
          (sym (length-mention_kinds h.earlier));
      mention = h.mention;
      place = place;
      mention_listed =
          ap (λ l. slice_get l (valued h.earlier)) mentions
          ∙ get_here (value_mentions h.earlier) h.mention (value_mentions h.later) (valued h.earlier)
          (sym (length-mentions h.earlier));
      fact = λ f g stated. fact_of_value path s h.earlier h.mention h.later f g rules h.mentioned place h.tells stated;
    }

pub found_at : (act : Act) → IsAtEnd act → (path : List Part) (s : Document) → Rules (mentions_in s)
    → (c : Changed Document) → nested act path s ≡ Some c → IsFoundAt act path s c
found_at act ends path s rules c e =
    let h : IsFoundIn act (Valid_document s) 0 path (mentions_in s) (syntax.values s) c =
    the_of (IsFoundIn act (Valid_document s) 0 path (mentions_in s) (syntax.values s)) (nested act path s) c e
    (found_nested act path s) in
    found_at-by act ends path s rules c h h.more refl

-- ---- the value of a path

-- It is the value of the node's number: with its fact, its leaf, and its text, which is at its place and is what is
-- got.
pub record IsValueOf (profile : Profile) (path : List Part) (s : Document) (v : ℕ) (i : ValueInfo) : Type 0 where
  pub number : last_number is_value value_number (numbered_at path (numbered_in s)) ≡ Some v
  pub info : slice_get (syntax.values s) v ≡ Some i
  pub value : Value
  pub valid : IsValue profile value
  pub fact : fact_at path (mentions_in s) ≡ Some (body_fact value.body)
  pub leaf : i.leaf ≡ leaf_of value.body
  pub here : IsPart (text s) i.span.start (value_text value)
  pub end : i.span.end ≡ i.span.start + length (value_text value)
  pub spelled : text_at (text s) i.span ≡ value_text value
  pub got : value_at path s ≡ Some (text_at (text s) i.span)

abbrev own_text : Act
own_text more v = replacement v more v

own_text-is : IsAct own_text
own_text-is path v = replacement-is v path v

-- a replacement begins where the value does, and takes all of it
record IsReplaced (new v : Value) (d : Changed Value) : Type 0 where
  before : d.before ≡ []
  old : d.old ≡ value_text v
  fresh : d.new ≡ value_text new

replaced : (new v : Value) (d : Changed Value) → replacement new [] v ≡ Some d → IsReplaced new v d
replaced new v d e =
    let x : Changed Value = record { to = new; before = []; old = value_text v; new = value_text new; after = [] } in
    let k : x ≡ d = same_Some x d e in
    record {
      before = sym (ap (λ (c : Changed Value). c.before) k);
      old = sym (ap (λ (c : Changed Value). c.old) k);
      fresh = sym (ap (λ (c : Changed Value). c.new) k);
    }

-- a part of the text of that length
text_here : (bytes : List ℕ) (i : Span) (t : List ℕ) → IsPart bytes i.start t → i.end ≡ i.start + length t
    → text_at bytes i ≡ t
text_here bytes i t here end = part_taken bytes i.start (i.end - i.start) t here (omega (arith, end))

-- The value at a path is the value of its node's number.
pub value_of_path : (profile : Profile) (path : List Part) (s : Document) → IsDocument profile s
    → ObeysRules (marks (mentions_in s)) → has_value path (mentions_in s) ≡ true
    → (v : ℕ) × (i : ValueInfo) × IsValueOf profile path s v i
value_of_path profile path s valid obeys has =
    let rules : Rules (mentions_in s) = rules_of_document s obeys in
    let (c, e) =
    the_some (nested own_text path s)
    (some_nested own_text (λ v. tt) path s rules (alone_of_has path (mentions_in s) has)) in
    let h : IsFoundAt own_text path s c = found_at own_text (λ p ps v. refl) path s rules c e in
    let stated : IsStatedBy (text s) profile h.kind h.own =
    zip_at (IsStatedBy (text s) profile) (value_mention_kinds (mentions_in s)) (syntax.values s) h.number h.kind h.own
    (values_mention profile s valid) h.mentioned h.here in
    let (f, is, values) = fact_of_has path (mentions_in s) has in
    let d : IsReplaced h.value h.value h.done = replaced h.value h.value h.done h.by in
    let cut : IsChangeOf text s c = change_of (nested own_text path s) s c e (nested-is own_text own_text-is path s) in
    let place : length c.before ≡ h.own.span.start = omega (arith, h.start, ap (λ (l : List ℕ). length l) d.before) in
    let long : h.own.span.end ≡ h.own.span.start + length c.old =
    omega (arith, h.end, ap (λ (l : List ℕ). length l) (h.old ∙ d.old)) in
    let occurs : IsPart (text s) h.own.span.start c.old =
    record { prefix = c.before; after = c.after; place = place; whole = cut.was } in (
      h.number,
      h.own,
      record {
        number = h.is;
        info = h.here;
        value = stated.value;
        valid = stated.valid;
        fact = is ∙ ap Some (h.fact f (body_fact stated.value.body) stated.fact is values);
        leaf = stated.leaf;
        here = stated.here;
        end = stated.end;
        spelled = text_here (text s) h.own.span (value_text stated.value) stated.here stated.end;
        got = ap (option_map (λ (x : Changed Document). x.old)) e
            ∙ ap Some (sym (text_here (text s) h.own.span c.old occurs long));
      },
    )

-- where a node has the number of a value, there is one
has_of_body : (path : List Part) (ms : List Mention) (b : Body) → fact_at path ms ≡ Some (body_fact b)
    → has_value path ms ≡ true
has_of_body path ms b e =
    ap (λ (o : Option Fact). elim o [ None ↦ false | Some f ↦ is_value_fact f ]) e ∙ value_fact-body b

pub has_of_number : (path : List Part) (s : Document) (v : ℕ) → ObeysRules (marks (mentions_in s))
    → last_number is_value value_number (numbered_at path (numbered_in s)) ≡ Some v
    → has_value path (mentions_in s) ≡ true
has_of_number path s v obeys number =
    let rules : Rules (mentions_in s) = rules_of_document s obeys in
    let (c, e) =
    the_some (nested own_text path s) (some_nested own_text (λ v. tt) path s rules (alone_of_number path s v number)) in
    let d : IsDoneAt own_text path (mentions_in s) depth s c =
    the_of (IsDoneAt own_text path (mentions_in s) depth s) (nested own_text path s) c e
    (done_nested own_text (λ p ps v. refl) path s rules) in
    has_of_body path (mentions_in s) d.value.body
    (ap (λ (q : List Part). fact_at q (mentions_in s)) (sym (append-nil path)) ∙ d.facts [])

-- The value of a node's number is the value at its path.
pub value_of_number : (profile : Profile) (path : List Part) (s : Document) (v : ℕ) → IsDocument profile s
    → ObeysRules (marks (mentions_in s))
    → last_number is_value value_number (numbered_at path (numbered_in s)) ≡ Some v
    → (i : ValueInfo) × IsValueOf profile path s v i
value_of_number profile path s v valid obeys number =
    let (w, i, h) = value_of_path profile path s valid obeys (has_of_number path s v obeys number) in
    let same : w ≡ v =
    one_of_two (last_number is_value value_number (numbered_at path (numbered_in s))) w v h.number number in
    (i, subst (λ (n : ℕ). IsValueOf profile path s n i) same h)

pub number_of_has : (path : List Part) (s : Document) → ObeysRules (marks (mentions_in s))
    → has_value path (mentions_in s) ≡ true
    → (v : ℕ) × (last_number is_value value_number (numbered_at path (numbered_in s)) ≡ Some v)
number_of_has path s obeys has =
    let rules : Rules (mentions_in s) = rules_of_document s obeys in
    let (c, e) =
    the_some (nested own_text path s)
    (some_nested own_text (λ v. tt) path s rules (alone_of_has path (mentions_in s) has)) in
    let h : IsFoundAt own_text path s c = found_at own_text (λ p ps v. refl) path s rules c e in
    (h.number, h.is)

-- where a node has none, there is none
pub none_of_number : (path : List Part) (s : Document) → ObeysRules (marks (mentions_in s))
    → last_number is_value value_number (numbered_at path (numbered_in s)) ≡ None
    → has_value path (mentions_in s) ≡ false
none_of_number path s obeys number = by (has_value path (mentions_in s)) (number_of_has path s obeys)
  where
    by : (b : Bool)
        → (b ≡ true → (v : ℕ) × (last_number is_value value_number (numbered_at path (numbered_in s)) ≡ Some v))
        → b ≡ false
    by false f = refl
    by true f = let (v, e) = f refl in let k : None ≡ Some v = sym number ∙ e in absurd cc

-- the mention of a value with that number is at the path
pub mention_of_number : (path : List Part) (s : Document) (v : ℕ) → ObeysRules (marks (mentions_in s))
    → last_number is_value value_number (numbered_at path (numbered_in s)) ≡ Some v
    → (m : Mention) × (m.path ≡ path) × (slice_get (value_mentions (mentions_in s)) v ≡ Some m)
mention_of_number path s v obeys number =
    let rules : Rules (mentions_in s) = rules_of_document s obeys in
    let (c, e) =
    the_some (nested own_text path s) (some_nested own_text (λ v. tt) path s rules (alone_of_number path s v number)) in
    let h : IsFoundAt own_text path s c = found_at own_text (λ p ps v. refl) path s rules c e in
    let same : h.number ≡ v =
    one_of_two (last_number is_value value_number (numbered_at path (numbered_in s))) h.number v h.is number in
    (h.mention, h.place, ap (slice_get (value_mentions (mentions_in s))) (sym same) ∙ h.mention_listed)

-- ---- where `set` is

-- `set` replaces that value, from its first byte to its last.
pub set_placed : (path : List Part) (new : Value) (s : Document) (v : ℕ) (i : ValueInfo) (c : Changed Document)
    → ObeysRules (marks (mentions_in s))
    → last_number is_value value_number (numbered_at path (numbered_in s)) ≡ Some v
    → slice_get (syntax.values s) v ≡ Some i → change s (set path new) ≡ Some c
    → place_of c ≡ record { start = i.span.start; end = i.span.end; new = value_text new }
set_placed path new s v i c obeys number info e =
    let h : IsFoundAt (replacement new) path s c =
    found_at (replacement new) (ends_replacement new) path s (rules_of_document s obeys) c e in
    let same : h.number ≡ v =
    one_of_two (last_number is_value value_number (numbered_at path (numbered_in s))) h.number v h.is number in
    let own : h.own ≡ i =
    one_of_two (slice_get (syntax.values s) v) h.own i (ap (slice_get (syntax.values s)) (sym same) ∙ h.here) info in
    let d : IsReplaced new h.value h.done = replaced new h.value h.done h.by in
    let start : length c.before ≡ h.own.span.start = omega (arith, h.start, ap (λ (l : List ℕ). length l) d.before) in
    let end : length c.before + length c.old ≡ h.own.span.end =
    omega (arith, start, h.end, ap (λ (l : List ℕ). length l) (h.old ∙ d.old)) in
    let first : length c.before ≡ i.span.start = start ∙ ap (λ (x : ValueInfo). x.span.start) own in
    let last : length c.before + length c.old ≡ i.span.end = end ∙ ap (λ (x : ValueInfo). x.span.end) own in
    let fresh : c.new ≡ value_text new = h.new ∙ d.fresh in
    same_place (length c.before) i.span.start (length c.before + length c.old) i.span.end c.new (value_text new) first
    last fresh
  where
    same_place : (a a' b b' : ℕ) (t t' : List ℕ) → a ≡ a' → b ≡ b' → t ≡ t'
        → (let x : Place = record { start = a; end = b; new = t } in
        let y : Place = record { start = a'; end = b'; new = t' } in x ≡ y)
    same_place a a' b b' t t' e f g = cc

pub set_place : (path : List Part) (new : Value) (s : Document) (v : ℕ) (i : ValueInfo)
    → ObeysRules (marks (mentions_in s)) → has_value path (mentions_in s) ≡ true
    → last_number is_value value_number (numbered_at path (numbered_in s)) ≡ Some v
    → slice_get (syntax.values s) v ≡ Some i
    → place s (set path new) ≡ record { start = i.span.start; end = i.span.end; new = value_text new }
set_place path new s v i obeys has number info =
    let (c, e) = the_some (change s (set path new)) (set_exists path new s (rules_of_document s obeys) has) in
    ap (λ (o : Option (Changed Document)). place_of (changed_or_same s o)) e
    ∙ set_placed path new s v i c obeys number info e
