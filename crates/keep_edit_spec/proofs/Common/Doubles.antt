-- A mark like an earlier one, of a role that allows itself, does no harm: what the earlier one allows, allows it.
--
-- Four kinds of mention may be repeated. For each of them the table shows that what it allows also allows it
-- (`repeat_again`), so a second one may stand anywhere after the first: each mention between them and after them is
-- allowed by the first, and therefore by the second and the other way round (`double_in`, by induction over the
-- mentions).
--
-- Theorems: `double_in`, `doubles_in`, `rules_doubled`; `has_doubled`: of no path they say anything new.
use Rattle.std.proofs.Common.{◌≡◌, Bool, true, false, ◌||◌, List, [], ◌∷◌, ◌++◌, refl, sym, ap, subst, ◌∙◌}
use Rattle.std.proofs.Common.{append_assoc, inl, inr}
use Rattle.std.specs.List.{list_any}
use Rattle.std.proofs.lemmas.List.Folds.{list_any-append}
use Rattle.keep_path.specs.Path.{Part, same_path}
use Rattle.keep_meaning.specs.Marks.{MentionKind, through, past, define, element, dotted, value, begun, passed, item}
use Rattle.keep_meaning.specs.Marks.{Mention}
use Rattle.keep_meaning.specs.Nodes.{is_at, has, kinds_at}
use Rattle.keep_edit_spec.proofs.Common.Runs.{kinds_allow, AllOf, SomeOf, all_map, all_join, meet, some_left}
use Rattle.keep_edit_spec.proofs.Common.Runs.{some_right, Allowed, Rules, IsDisjoint, IsUnder, rules_replaced}
use Rattle.keep_edit_spec.proofs.Common.Runs.{same_path-sound, same_path-refl, kinds_at-append}

abbrev pub repeatable : MentionKind → Bool
repeatable through = true
repeatable past = true
repeatable dotted = true
repeatable passed = true
repeatable _ = false

-- it allows itself
repeat_itself : (d : MentionKind) → repeatable d ≡ true → kinds_allow d d ≡ true
repeat_itself through h = refl
repeat_itself past h = refl
repeat_itself dotted h = refl
repeat_itself passed h = refl
repeat_itself other h = absurd cc

through_again : (x : MentionKind) → kinds_allow through x ≡ true → kinds_allow x through ≡ true
through_again through h = refl
through_again define h = refl
through_again dotted h = refl
through_again begun h = refl
through_again passed h = refl
through_again other h = absurd cc

dotted_again : (x : MentionKind) → kinds_allow dotted x ≡ true → kinds_allow x dotted ≡ true
dotted_again through h = refl
dotted_again dotted h = refl
dotted_again begun h = refl
dotted_again passed h = refl
dotted_again other h = absurd cc

past_again : (x : MentionKind) → kinds_allow past x ≡ true → kinds_allow x past ≡ true
past_again begun h = refl
past_again passed h = refl
past_again past h = refl
past_again element h = refl
past_again other h = absurd cc

passed_again : (x : MentionKind) → kinds_allow x passed ≡ true
passed_again through = refl
passed_again define = refl
passed_again dotted = refl
passed_again begun = refl
passed_again passed = refl
passed_again past = refl
passed_again element = refl
passed_again (value f) = refl
passed_again (item f) = refl

-- what it allows, allows it
repeat_again : (d x : MentionKind) → repeatable d ≡ true → kinds_allow d x ≡ true → kinds_allow x d ≡ true
repeat_again through x h g = through_again x g
repeat_again past x h g = past_again x g
repeat_again dotted x h g = dotted_again x g
repeat_again passed x h g = passed_again x
repeat_again other x h g = absurd cc

-- ---- in a list

pub record IsSame (m x : Mention) : Type 0 where
  pub path : x.path ≡ m.path
  pub kind : x.kind ≡ m.kind

pub all_insert : (P : Mention → Type 0) (a : List Mention) (m : Mention) (b : List Mention) → AllOf P (a ++ b) → P m
    → AllOf P (a ++ m ∷ b)
all_insert P [] m b h g = (g, h)
all_insert P (x ∷ a) m b h g = (h.0, all_insert P a m b h.1 g)

put_repeat : (m : Mention) (before after : List Mention) → repeatable m.kind ≡ true
    → AllOf (Allowed m) (before ++ after) → Rules (before ++ after) → Rules (before ++ m ∷ after)
put_repeat m [] after h a r = (a, r)
put_repeat m (y ∷ before) after h a r = (
  all_insert (Allowed y) before m after r.0 (λ e. repeat_again m.kind y.kind h (a.0 (sym e))),
  put_repeat m before after h a.1 r.1,
)

same_allows : (x m : Mention) → IsSame m x → (y : Mention) → Allowed x y → Allowed m y
same_allows x m s y f e = subst (λ (d : MentionKind). kinds_allow d y.kind ≡ true) s.kind (f (s.path ∙ e))

pub double_in : (m : Mention) (before after : List Mention) → repeatable m.kind ≡ true → SomeOf (IsSame m) before
    → Rules (before ++ after) → Rules (before ++ m ∷ after)
double_in m [] after h s r = absurd s
double_in m (x ∷ before) after h (inl s) r = (
  all_insert (Allowed x) before m after r.0
      (λ e. subst (λ (d : MentionKind). kinds_allow d m.kind ≡ true) (sym s.kind) (repeat_itself m.kind h)),
  put_repeat m before after h (all_map (Allowed x) (Allowed m) (same_allows x m s) (before ++ after) r.0) r.1,
)
double_in m (x ∷ before) after h (inr s) r =
    let (y, same, allowed) =
    meet (IsSame m) (Allowed x) (before ++ after) (some_left (IsSame m) before after s) r.0 in (
      all_insert (Allowed x) before m after r.0
          (λ e. subst (λ (d : MentionKind). kinds_allow x.kind d ≡ true) same.kind (allowed (e ∙ sym same.path))),
      double_in m before after h s r.1,
    )

-- a mention like an earlier one
pub record IsDoubleOf (before : List Mention) (m : Mention) : Type 0 where
  pub repeats : repeatable m.kind ≡ true
  pub same : SomeOf (IsSame m) before

pub doubles_left : (a b ms : List Mention) → AllOf (IsDoubleOf a) ms → AllOf (IsDoubleOf (a ++ b)) ms
doubles_left a b ms h =
    all_map (IsDoubleOf a) (IsDoubleOf (a ++ b))
    (λ m d. record { repeats = d.repeats; same = some_left (IsSame m) a b d.same }) ms h

pub doubles_right : (a b ms : List Mention) → AllOf (IsDoubleOf b) ms → AllOf (IsDoubleOf (a ++ b)) ms
doubles_right a b ms h =
    all_map (IsDoubleOf b) (IsDoubleOf (a ++ b))
    (λ m d. record { repeats = d.repeats; same = some_right (IsSame m) a b d.same }) ms h

pub doubles_self : (ms : List Mention) → AllOf (λ m. repeatable m.kind ≡ true) ms → AllOf (IsDoubleOf ms) ms
doubles_self [] h = tt
doubles_self (m ∷ ms) h = (
  record { repeats = h.0; same = inl (record { path = refl; kind = refl }) },
  all_map (IsDoubleOf ms) (IsDoubleOf (m ∷ ms)) (λ x d. record { repeats = d.repeats; same = inr d.same }) ms
      (doubles_self ms h.1),
)

-- Doubles may be put in anywhere after what they repeat.
pub doubles_in : (new before after : List Mention) → AllOf (IsDoubleOf before) new → Rules (before ++ after)
    → Rules (before ++ (new ++ after))
doubles_in [] before after h r = r
doubles_in (m ∷ new) before after h r =
    let one : Rules (before ++ m ∷ after) = double_in m before after h.0.repeats h.0.same r in
    let two : Rules ((before ++ m ∷ []) ++ after) = subst Rules (sym (append_assoc before (m ∷ []) after)) one in
    subst Rules (append_assoc before (m ∷ []) (new ++ after))
    (doubles_in new (before ++ m ∷ []) after (doubles_left before (m ∷ []) new h.1) two)

-- Doubles, and after them a run under a fresh path.
pub rules_doubled : (p : List Part) (before doubles run after : List Mention) → Rules (before ++ after)
    → AllOf (IsDoubleOf before) doubles
    → AllOf (IsDisjoint p) before → AllOf (IsDisjoint p) after → AllOf (IsDisjoint p) doubles → AllOf (IsUnder p) run
    → Rules run → Rules (before ++ ((doubles ++ run) ++ after))
rules_doubled p before doubles run after r d hb hh hd hr rr =
    let one : Rules (before ++ (doubles ++ after)) = doubles_in doubles before after d r in
    let two : Rules ((before ++ doubles) ++ ([] ++ after)) =
    subst Rules (sym (append_assoc before doubles after)) one in
    let three : Rules ((before ++ doubles) ++ (run ++ after)) =
    rules_replaced p (before ++ doubles) [] run after two (all_join (IsDisjoint p) before doubles hb hd) hh hr rr in
    subst Rules (append_assoc before doubles (run ++ after)
    ∙ ap (λ (l : List Mention). before ++ l) (sym (append_assoc doubles run after))) three

-- ---- what is said of a path

abbrev pub IsMentioned : (MentionKind → Bool) → List Part → Mention → Type 0
IsMentioned is a m = (m.path ≡ a) × (is m.kind ≡ true)

pub some_has : (is : MentionKind → Bool) (a : List Part) (ms : List Mention) → SomeOf (IsMentioned is a) ms
    → has is a ms ≡ true
some_has is a [] h = absurd h
some_has is a (m ∷ ms) (inl h) =
    let here : is_at a m ≡ true = subst (λ (q : List Part). same_path m.path q ≡ true) h.0 (same_path-refl m.path) in
    let yes : is m.kind ≡ true = h.1 in
    rw (here, yes) refl
some_has is a (m ∷ ms) (inr h) = by (is_at a m) refl (is m.kind) refl (some_has is a ms h)
  where
    by : (b : Bool) → is_at a m ≡ b → (c : Bool) → is m.kind ≡ c → has is a ms ≡ true → has is a (m ∷ ms) ≡ true
    by false e c f h = rw e h
    by true e true f h = rw (e, f) refl
    by true e false f h = rw (e, f) h

pub has_some : (is : MentionKind → Bool) (a : List Part) (ms : List Mention) → has is a ms ≡ true
    → SomeOf (IsMentioned is a) ms
has_some is a [] h = absurd cc
has_some is a (m ∷ ms) h = by (is_at a m) refl (is m.kind) refl h (λ g. has_some is a ms g)
  where
    by : (b : Bool) → is_at a m ≡ b → (c : Bool) → is m.kind ≡ c → has is a (m ∷ ms) ≡ true
        → (has is a ms ≡ true → SomeOf (IsMentioned is a) ms) → SomeOf (IsMentioned is a) (m ∷ ms)
    by false e c f h rest = inr (rest (rw e at h))
    by true e true f h rest = inl (same_path-sound m.path a e, f)
    by true e false f h rest = inr (rest (rw (e, f) at h))

-- ---- doubles say nothing new

same_mentioned : (is : MentionKind → Bool) (a : List Part) (m : Mention) (ms : List Mention) → IsMentioned is a m
    → SomeOf (IsSame m) ms → SomeOf (IsMentioned is a) ms
same_mentioned is a m [] h s = absurd s
same_mentioned is a m (x ∷ ms) h (inl e) = inl (e.path ∙ h.0, ap is e.kind ∙ h.1)
same_mentioned is a m (x ∷ ms) h (inr s) = inr (same_mentioned is a m ms h s)

said_before : (is : MentionKind → Bool) (a : List Part) (before ms : List Mention) → AllOf (IsDoubleOf before) ms
    → has is a ms ≡ true → has is a before ≡ true
said_before is a before ms doubles h =
    let (m, mentioned, double) = meet (IsMentioned is a) (IsDoubleOf before) ms (has_some is a ms h) doubles in
    some_has is a before (same_mentioned is a m before mentioned double.same)

pub has-append : (is : MentionKind → Bool) (a : List Part) (xs ys : List Mention)
    → has is a (xs ++ ys) ≡ (has is a xs || has is a ys)
has-append is a xs ys =
    ap (list_any is) (kinds_at-append a xs ys) ∙ list_any-append is (kinds_at a xs) (kinds_at a ys)

-- so where doubles are put in, what is said of a path passes a test as before
pub has_doubled : (is : MentionKind → Bool) (a : List Part) (before doubles after : List Mention)
    → AllOf (IsDoubleOf before) doubles → has is a (before ++ (doubles ++ after)) ≡ has is a (before ++ after)
has_doubled is a before doubles after h =
    has-append is a before (doubles ++ after)
    ∙ ap (λ (b : Bool). has is a before || b) (has-append is a doubles after)
    ∙ by (has is a before) (has is a doubles) (has is a after) (said_before is a before doubles h)
    ∙ sym (has-append is a before after)
  where
    by : (b d c : Bool) → (d ≡ true → b ≡ true) → (b || (d || c)) ≡ (b || c)
    by true d c k = refl
    by false false c k = refl
    by false true c k = absurd (let no : false ≡ true = k refl in cc)
