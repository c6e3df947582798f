-- A new section put in after a body: the header's way repeats what was said, its table is where only headers went, and
-- its keyval is new.
--
-- The rules and the facts follow from what is known of the way and of the table's path (`IsSectionPlace`). The mentions
-- on the way are doubles of earlier ones, which do no harm (`doubles_in`). The mention of the table is allowed by those
-- before and after it (`one_in`). The keyval's mentions are a run under a new path, and no double is at or under that
-- path (`doubles_disjoint`). `rules_section` takes the three together. After a body's end only blank lines come before
-- the next header, so the rest says the same in whichever body it is read (`after_free`). The facts are those of the
-- keyval, and elsewhere those of all other mentions (`tree_put-by`).
--
-- Theorems: `section_law`: the rules and the facts with the section; `after_free`: what follows a body does not depend
-- on its path.
use Rattle.std.proofs.Common.{◌≡◌, ℕ, zero, suc, ◌≤◌, false, List, [], ◌∷◌, ◌++◌, length, map, take, drop, refl, sym}
use Rattle.std.proofs.Common.{ap, subst, ◌∙◌, append_assoc, Option, Some, None}
use Rattle.std.specs.List.{list_any}
use Rattle.std.proofs.lemmas.List.{append-nil}
use Rattle.keep_types.specs.declared.leaf.Profile.{Profile}
use Rattle.keep_syntax.specs.Tree.{Written, Gap, Name, Value, Content, blank, keyval, header, element, Line, Document}
use Rattle.keep_path.specs.Path.{Part, key}
use Rattle.keep_meaning.specs.Marks.{MentionKind, define, value, Mention, below, Reading, start, header_path}
use Rattle.keep_meaning.specs.Marks.{header_prefixes}
use Rattle.keep_meaning.specs.Meaning.{keys_of, body_fact, valued_mentions, entries_mentions, keyval_mentions, step}
use Rattle.keep_meaning.specs.Meaning.{line_mentions, after_line, lines_mentions, reading_after_lines, lines}
use Rattle.keep_meaning.specs.Meaning.{mentions_in, mentions_of_value}
use Rattle.keep_meaning.specs.Nodes.{is_at, fact_at}
use Rattle.keep_edit_spec.specs.Look.{strip}
use Rattle.keep_edit_spec.specs.Lines.{body_length, more_lines}
use Rattle.keep_edit_spec.specs.Edits.{at_line, key_with, name_with, new_header}
use Rattle.keep_edit_spec.proofs.Common.Runs.{AllOf, all_left, all_right, all_join, meet, Allowed, Rules, IsDisjoint}
use Rattle.keep_edit_spec.proofs.Common.Runs.{IsUnder, rules_replaced}
use Rattle.keep_edit_spec.proofs.Common.SetLaw.{EachTo, all_longer}
use Rattle.keep_edit_spec.proofs.Common.SetDocument.{each_to, rules_outside, longer}
use Rattle.keep_edit_spec.proofs.Common.InsertLaw.{fresh_disjoint, keyed_under, under_both, rules_keyval, KeyvalFact}
use Rattle.keep_edit_spec.proofs.Common.InsertLaw.{tree_put-by}
use Rattle.keep_edit_spec.proofs.Common.NewLines.{IsKeyText, key_means}
use Rattle.keep_edit_spec.proofs.Common.Doubles.{IsSame, IsDoubleOf, all_insert, doubles_in}
use Rattle.keep_edit_spec.proofs.Insert.InsertDotted.{mentioned_before, mentions_put}

-- ---- after a body's end nothing is said by the body

free_blank : (t : List (List Part)) (a b : List Part) (l : Line) (ls : List Line) (k : ℕ)
    → ((c : List Part) → after_line (record { tables = t; body = c }) l ≡ record { tables = t; body = c })
    → ((c : List Part) → line_mentions (record { tables = t; body = c }) l ≡ [])
    → lines_mentions (record { tables = t; body = a }) (drop k ls)
    ≡ lines_mentions (record { tables = t; body = b }) (drop k ls)
    → lines_mentions (record { tables = t; body = a }) (drop (more_lines false k) (l ∷ ls))
    ≡ lines_mentions (record { tables = t; body = b }) (drop (more_lines false k) (l ∷ ls))
free_blank t a b l ls zero same none h =
    let one : (c : List Part)
    → lines_mentions (record { tables = t; body = c }) (l ∷ ls) ≡ lines_mentions (record { tables = t; body = c }) ls =
    λ c. ap (λ (x : List Mention). x ++ lines_mentions (after_line (record { tables = t; body = c }) l) ls) (none c)
    ∙ ap (λ (r : Reading). lines_mentions r ls) (same c) in
    one a ∙ h ∙ sym (one b)
free_blank t a b l ls (suc k) same none h = h

free_content : (t : List (List Part)) (a b : List Part) (before after' : Gap) (comment : Option Written) (c : Content)
    (ls : List Line)
    → lines_mentions (record { tables = t; body = a }) (drop (body_length ls) ls)
    ≡ lines_mentions (record { tables = t; body = b }) (drop (body_length ls) ls)
    → (let l : Line = record { before = before; content = c; after = after'; comment = comment } in
    lines_mentions (record { tables = t; body = a }) (drop (body_length (l ∷ ls)) (l ∷ ls))
    ≡ lines_mentions (record { tables = t; body = b }) (drop (body_length (l ∷ ls)) (l ∷ ls)))
free_content t a b before after' comment blank ls h =
    free_blank t a b (record { before = before; content = blank; after = after'; comment = comment }) ls
    (body_length ls) (λ c. refl) (λ c. refl) h
free_content t a b before after' comment (keyval n v) ls h = h
free_content t a b before after' comment (header x k y) ls h = refl
free_content t a b before after' comment (element x k y) ls h = refl

pub after_free : (t : List (List Part)) (a b : List Part) (ls : List Line)
    → lines_mentions (record { tables = t; body = a }) (drop (body_length ls) ls)
    ≡ lines_mentions (record { tables = t; body = b }) (drop (body_length ls) ls)
after_free t a b [] = refl
after_free t a b (l ∷ ls) = free_content t a b l.before l.after l.comment l.content ls (after_free t a b ls)

-- ---- one mention put in

pub one_in : (m : Mention) (before after : List Mention) → AllOf (λ x. Allowed x m) before → AllOf (Allowed m) after
    → Rules (before ++ after) → Rules (before ++ m ∷ after)
one_in m [] after h g r = (g, r)
one_in m (x ∷ before) after h g r = (all_insert (Allowed x) before m after r.0 h.0, one_in m before after h.1 g r.1)

pub doubles_disjoint : (p : List Part) (before ds : List Mention) → AllOf (IsDisjoint p) before
    → AllOf (IsDoubleOf before) ds → AllOf (IsDisjoint p) ds
doubles_disjoint p before [] h d = tt
doubles_disjoint p before (m ∷ ds) h d =
    let (x, same, disjoint) = meet (IsSame m) (IsDisjoint p) before d.0.same h in
    (subst (λ (q : List Part). strip p q ≡ None) same.path disjoint, doubles_disjoint p before ds h d.1)

-- Doubles, a mention that the others allow, and after it a run under a fresh path.
pub rules_section : (p : List Part) (before prefixes : List Mention) (m : Mention) (run after : List Mention)
    → Rules (before ++ after) → AllOf (IsDoubleOf before) prefixes
    → AllOf (λ x. Allowed x m) before → AllOf (Allowed m) after → AllOf (IsDisjoint p) before
    → AllOf (IsDisjoint p) after → IsDisjoint p m → AllOf (IsUnder p) run → Rules run
    → Rules ((before ++ (prefixes ++ m ∷ [])) ++ (run ++ after))
rules_section p before prefixes m run after r d hm gm hb hh am hr rr =
    let one : Rules (before ++ m ∷ after) = one_in m before after hm gm r in
    let two : Rules (before ++ (prefixes ++ m ∷ after)) = doubles_in prefixes before (m ∷ after) d one in
    let shape : before ++ (prefixes ++ m ∷ after) ≡ (before ++ (prefixes ++ m ∷ [])) ++ ([] ++ after) =
    ap (λ (l : List Mention). before ++ l) (sym (append_assoc prefixes (m ∷ []) after))
    ∙ sym (append_assoc before (prefixes ++ m ∷ []) after) in
    rules_replaced p (before ++ (prefixes ++ m ∷ [])) [] run after (subst Rules shape two)
    (all_join (IsDisjoint p) before (prefixes ++ m ∷ []) hb
    (all_join (IsDisjoint p) prefixes (m ∷ []) (doubles_disjoint p before prefixes hb d) (am, tt))) hh hr rr

-- What has to be known of line n for a section with these keys: its path, and what comes before and after.
pub record IsSectionPlace (s : Document) (n : ℕ) (a : List Part) (keys : List (List ℕ)) : Type 0 where
  pub few : n ≤ suc (length s.ended)
  pub path : header_path (reading_after_lines start (take n (lines s))).tables [] keys ≡ a
  pub doubles : AllOf (IsDoubleOf (lines_mentions start (take n (lines s))))
      (header_prefixes (reading_after_lines start (take n (lines s))).tables [] keys)
  pub before_lets : AllOf (λ x. Allowed x (record { path = a; kind = define }))
      (lines_mentions start (take n (lines s)))
  pub after_lets : AllOf (Allowed (record { path = a; kind = define }))
      (lines_mentions (reading_after_lines start (take n (lines s))) (drop n (lines s)))
  pub free : lines_mentions (record { tables = (reading_after_lines start (take n (lines s))).tables; body = a })
      (drop n (lines s)) ≡ lines_mentions (reading_after_lines start (take n (lines s))) (drop n (lines s))

-- What is said with the section put in: the facts are the new keyval's, and elsewhere those of what was said with the
-- way and the table.
pub record IsSectionLaw (s : Document) (n : ℕ) (a : List Part) (keys : List (List ℕ)) (p : List Part) (v : Value)
    (s' : Document) : Type 0 where
  pub rules : Rules (mentions_in s')
  pub tree : (q : List Part)
      → fact_at q (mentions_in s') ≡ KeyvalFact p v ((lines_mentions start (take n (lines s))
      ++ (header_prefixes (reading_after_lines start (take n (lines s))).tables [] keys
      ++ record { path = a; kind = define } ∷ []))
      ++ lines_mentions (reading_after_lines start (take n (lines s))) (drop n (lines s))) q

disjoint_prefix : (a : List Part) (b : Part) (mention_kind : MentionKind)
    → IsDisjoint (a ++ b ∷ []) (record { path = a; kind = mention_kind })
disjoint_prefix a b mention_kind = by (strip (a ++ b ∷ []) a) refl
  where
    by : (o : Option (List Part)) → strip (a ++ b ∷ []) a ≡ o → strip (a ++ b ∷ []) a ≡ None
    by None e = e
    by (Some x) e = absurd (longer a b [] (x, e))

pub section_law : (profile : Profile) (s : Document) (n : ℕ) (a : List Part) (h : List ℕ) (hs : List (List ℕ))
    (k : List ℕ) (ks : List (List ℕ)) (v : Value)
    → IsSectionPlace s n a (h ∷ hs) → AllOf (IsKeyText profile) (h ∷ hs) → AllOf (IsKeyText profile) (k ∷ ks)
    → list_any (is_at (a ++ key k ∷ [])) (mentions_in s) ≡ false → Rules (mentions_in s) → Rules (mentions_of_value v)
    → EachTo (IsSectionLaw s n a (h ∷ hs) (a ++ map key (k ∷ ks)) v)
    (at_line s n (blank ∷ new_header (h ∷ hs) ∷ keyval (name_with (k ∷ ks)) v ∷ []))
section_law profile s n a h hs k ks v place head_texts texts fresh rules value_rules =
    let name : Name = name_with (k ∷ ks) in
    let r : Reading = reading_after_lines start (take n (lines s)) in
    let rest : List Line = drop n (lines s) in
    let before : List Mention = lines_mentions start (take n (lines s)) in
    let after : List Mention = lines_mentions r rest in
    let prefixes : List Mention = header_prefixes r.tables [] (h ∷ hs) in
    let m : Mention = record { path = a; kind = define } in
    let vs : List Mention = valued_mentions (value (body_fact v.body)) (entries_mentions 0 v.nested) in
    let run : List Mention = map (below a) (keyval_mentions name v) in
    let means : keys_of name.key ≡ k ∷ ks = key_means profile k ks texts in
    let p0 : List Part = a ++ key k ∷ [] in
    let p : List Part = a ++ step 0 (Some name) in
    let whole : p ≡ a ++ map key (k ∷ ks) = ap (λ (l : List (List ℕ)). a ++ map key l) means in
    let was : mentions_in s ≡ before ++ after = mentioned_before s n in
    let disjoint : AllOf (IsDisjoint p0) (mentions_in s) = fresh_disjoint p0 (lines s) (a, k, refl) fresh in
    let both : AllOf (IsDisjoint p0) (before ++ after) =
    subst (λ (l : List Mention). AllOf (IsDisjoint p0) l) was disjoint in
    let hb : AllOf (IsDisjoint p0) before = all_left (IsDisjoint p0) before after both in
    let hh : AllOf (IsDisjoint p0) after = all_right (IsDisjoint p0) before after both in
    let prefix : List Mention = before ++ (prefixes ++ m ∷ []) in
    let hf : AllOf (IsDisjoint p0) prefix =
    all_join (IsDisjoint p0) before (prefixes ++ m ∷ []) hb
    (all_join (IsDisjoint p0) prefixes (m ∷ []) (doubles_disjoint p0 before prefixes hb place.doubles)
    (disjoint_prefix a (key k) define, tt)) in
    let long : p ≡ p0 ++ map key ks = whole ∙ sym (append_assoc a (key k ∷ []) (map key ks)) in
    let far : (ms : List Mention) → AllOf (IsDisjoint p0) ms → AllOf (IsDisjoint p) ms =
    λ ms g. subst (λ (x : List Part). AllOf (IsDisjoint x) ms) (sym long) (all_longer p0 (map key ks) ms g) in
    let under : AllOf (IsUnder p0) run =
    subst (λ (l : List ℕ). AllOf (IsUnder (a ++ key l ∷ [])) run) texts.0.means
    (under_both a _ (keyval_mentions name v) (keyed_under _ _ vs)) in
    let good : Rules (prefix ++ (run ++ after)) =
    rules_section p0 before prefixes m run after (subst Rules was rules) place.doubles place.before_lets
    place.after_lets hb hh (disjoint_prefix a (key k) define) under
    (rules_outside a (keyval_mentions name v) (rules_keyval name v value_rules)) in
    let mentioned : List Mention → List Part → List Mention =
    λ w b. before ++ (((w ++ record { path = b; kind = define } ∷ []) ++ (map (below b) (keyval_mentions name v) ++ []))
    ++ lines_mentions (record { tables = r.tables; body = b }) rest) in
    let tidy : mentioned prefixes a ≡ prefix ++ (run ++ after) =
    ap (λ (z : List Mention). before ++ (((prefixes ++ m ∷ []) ++ (run ++ [])) ++ z)) place.free
    ∙ ap (λ (z : List Mention). before ++ (((prefixes ++ m ∷ []) ++ z) ++ after)) (append-nil run)
    ∙ ap (λ (z : List Mention). before ++ z) (append_assoc (prefixes ++ m ∷ []) run after)
    ∙ sym (append_assoc before (prefixes ++ m ∷ []) (run ++ after)) in
    let iteration : mentioned (header_prefixes r.tables [] (keys_of (key_with (h ∷ hs))))
    (header_path r.tables [] (keys_of (key_with (h ∷ hs)))) ≡ prefix ++ (run ++ after) =
    ap (λ (l : List (List ℕ)). mentioned (header_prefixes r.tables [] l) (header_path r.tables [] l))
    (key_means profile h hs head_texts)
    ∙ ap (λ (b : List Part). mentioned prefixes b) place.path ∙ tidy in
    each_to (λ s'.
    mentions_in s' ≡ mentioned (header_prefixes r.tables [] (keys_of (key_with (h ∷ hs)))) (header_path r.tables []
    (keys_of (key_with (h ∷ hs)))))
    (IsSectionLaw s n a (h ∷ hs) (a ++ map key (k ∷ ks)) v)
    (at_line s n (blank ∷ new_header (h ∷ hs) ∷ keyval name v ∷ []))
    (λ s' is. record {
      rules = subst Rules (sym (is ∙ iteration)) good;
      tree = λ q. ap (fact_at q) (is ∙ iteration)
          ∙ tree_put-by a name v prefix after (far prefix hf) (far after hh) q (strip p q) refl
          ∙ ap (λ (x : List Part). KeyvalFact x v (prefix ++ after) q) whole;
    })
    (mentions_put s n (blank ∷ new_header (h ∷ hs) ∷ keyval name v ∷ []) place.few)
