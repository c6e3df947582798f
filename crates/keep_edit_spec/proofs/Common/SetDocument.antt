-- `set` in a document: what it says afterwards, its rules and its tree.
--
-- `SetLaw` has this for the entries of one value; here it is brought to documents. The change is made in one line
-- (`one_line_set`), so the mentions of all other lines are as before; that they are elsewhere follows from the rules
-- (`line_set`). So the mentions of the new document are the old ones with one run replaced (`document_set`). From this
-- alone come the two results: the rules hold, as the new run takes the place of a value that was alone at its path
-- (`rules_set`), and the tree is as the edit says (`tree_set`), by the facts under the path and elsewhere.
--
-- Theorems: `set_law`: after `set` the rules hold, and the tree has changed as it should.
use Rattle.std.proofs.Common.{◌≡◌, ℕ, Bool, true, false, not, List, [], ◌∷◌, ◌++◌, length, map, refl, sym, ap, subst}
use Rattle.std.proofs.Common.{◌∙◌, append_assoc, length-append, arith, Option, Some, None, ◌⊎◌, inl, inr}
use Rattle.std.specs.List.{filter_map, cons_option}
use Rattle.std.proofs.lemmas.List.{append-nil}
use Rattle.keep_syntax.specs.Tree.{Name, name_leaves, Value, Content, blank, keyval, header, element, Line, Ended}
use Rattle.keep_syntax.specs.Tree.{Document, ended_leaves, text_of}
use Rattle.keep_meaning.specs.Fact.{Fact}
use Rattle.keep_path.specs.Path.{Part, key, same_path}
use Rattle.keep_meaning.specs.Marks.{MentionKind, value, item, Mention, below, fact_of, Reading, start}
use Rattle.keep_meaning.specs.Meaning.{key_value, further_value, keys_of, body_fact, valued_mentions, keyed_mentions}
use Rattle.keep_meaning.specs.Meaning.{entries_mentions, step, keyval_mentions, line_mentions, after_line}
use Rattle.keep_meaning.specs.Meaning.{lines_mentions, reading_after_lines, line_of, lines, mentions_in}
use Rattle.keep_edit_spec.specs.Look.{strip}
use Rattle.keep_meaning.specs.Nodes.{kinds_at, fact_at, first_of}
use Rattle.keep_edit_spec.specs.Changed.{Changed, within}
use Rattle.keep_edit_spec.specs.Values.{in_value, replacement}
use Rattle.keep_edit_spec.specs.Lines.{Page, page_text, in_content, in_line, in_lines, with_page}
use Rattle.keep_edit_spec.specs.Edits.{Edit, set, change}
use Rattle.keep_edit_spec.specs.Trees.{IsTreeOf, fact_from, given, from as from_path}
use Rattle.keep_meaning.specs.Meaning.{mentions_of_value}
use Rattle.keep_edit_spec.proofs.Common.Runs.{kinds_allow, solid, AllOf, SomeOf, pairs_split, all_map, some_left}
use Rattle.keep_edit_spec.proofs.Common.Runs.{some_right, Allowed, Rules, exclusive, IsDisjoint, IsUnder, strip-sound}
use Rattle.keep_edit_spec.proofs.Common.Runs.{strip-append, rules_replaced, kinds_at-below, fact_under, fact_elsewhere}
use Rattle.keep_edit_spec.proofs.Common.SetLaw.{IsSolidAt, IsAloneAt, IsSet, run, set_below, set_beside, set_named}
use Rattle.keep_edit_spec.proofs.Common.SetLaw.{rules_below, rules_named, tag_of, tag_stated, tag_alone, ValueSet}
use Rattle.keep_edit_spec.proofs.Common.SetLaw.{set_value, EachTo, to_within, to_or_else, clash_before, clash_after}
use Rattle.keep_edit_spec.proofs.Common.SetLaw.{disjoint_closed, all_longer, keyed_split, some_alone_below}
use Rattle.keep_edit_spec.proofs.Common.LineLaws.{Reaches, EndsInKey, ClosedFrom, lines_closed, lines_mentions-append}
use Rattle.keep_edit_spec.proofs.Common.LineLaws.{never_root}

pub record ContentSet (body path : List Part) (new : Value) (from to : Content) : Type 0 where
  pub name : Name
  pub old : Value
  pub now : Value
  pub more : List Part
  pub was : from ≡ keyval name old
  pub is : to ≡ keyval name now
  pub place : path ≡ (body ++ step 0 (Some name)) ++ more
  pub changed : Rules (entries_mentions 0 old.nested) → ValueSet (Some name) more new old.body old.nested now

pub later : {A : Type 0} (R : Type 0) (P : A → Type 0) (o : Option (Changed A)) → (R → EachTo P o)
    → EachTo (λ x. R → P x) o
later R P None h = tt
later R P (Some c) h = h

content_set-by : (body path : List Part) (new : Value) (name : Name) (v : Value) (o : Option (List Part))
    → strip (body ++ step 0 (Some name)) path ≡ o → EachTo (ContentSet body path new (keyval name v)) (elim o [
      | None ↦ None
      | Some more ↦ within (keyval name) (text_of (name_leaves name)) [] (in_value (replacement new) more v)
    ])
content_set-by body path new name v None e = tt
content_set-by body path new name v (Some more) e =
    to_within (λ now. Rules (entries_mentions 0 v.nested) → ValueSet (Some name) more new v.body v.nested now)
    (ContentSet body path new (keyval name v))
    (keyval name) (text_of (name_leaves name)) [] (in_value (replacement new) more v)
    (λ now h.
    record {
      name = name;
      old = v;
      now = now;
      more = more;
      was = refl;
      is = refl;
      place = strip-sound (body ++ step 0 (Some name)) path more e;
      changed = h;
    })
    (later (Rules (entries_mentions 0 v.nested)) (ValueSet (Some name) more new v.body v.nested)
    (in_value (replacement new) more v) (λ rules. set_value (Some name) new more v rules))

content_set : (body path : List Part) (new : Value) (c : Content)
    → EachTo (ContentSet body path new c) (in_content (replacement new) body path c)
content_set body path new blank = tt
content_set body path new (keyval name v) =
    content_set-by body path new name v (strip (body ++ step 0 (Some name)) path) refl
content_set body path new (header before k after) = tt
content_set body path new (element before k after) = tt

-- one line is changed
pub record LinesSet (r : Reading) (path : List Part) (new : Value) (from to : List Line) : Type 0 where
  pub pre : List Line
  pub post : List Line
  pub old : Line
  pub now : Line
  pub was : from ≡ pre ++ old ∷ post
  pub is : to ≡ pre ++ now ∷ post
  pub content : ContentSet (reading_after_lines r pre).body path new old.content now.content

abbrev pub page_lines : Page → List Line
page_lines p = map line_of p.ended ++ p.last ∷ []

lines_set : (path : List Part) (new : Value) (r : Reading) (es : List Ended) (last : Line)
    → EachTo (λ p. LinesSet r path new (map line_of es ++ last ∷ []) (page_lines p))
    (in_lines (in_line (replacement new) path) r es last)
lines_set path new r [] last =
    to_within (λ l. ContentSet r.body path new last.content l.content)
    (λ p. LinesSet r path new (last ∷ []) (page_lines p)) (λ l. record { ended = []; last = l }) [] []
    (in_line (replacement new) path r last)
    (λ l h. record { pre = []; post = []; old = last; now = l; was = refl; is = refl; content = h })
    (to_within (ContentSet r.body path new last.content) (λ l. ContentSet r.body path new last.content l.content)
    (λ c. record last { content = c }) _ _ (in_content (replacement new) r.body path last.content)
    (λ c h. h) (content_set r.body path new last.content))
lines_set path new r (e ∷ es) last =
    to_or_else (λ p. LinesSet r path new (map line_of (e ∷ es) ++ last ∷ []) (page_lines p)) _ _
    (to_within (λ l. ContentSet r.body path new e.line.content l.content)
    (λ p. LinesSet r path new (map line_of (e ∷ es) ++ last ∷ []) (page_lines p))
    (λ l. record { ended = record { line = l; newline = e.newline } ∷ es; last = last }) []
    (e.newline.text ++ page_text (record { ended = es; last = last })) (in_line (replacement new) path r e.line)
    (λ l h. record {
      pre = [];
      post = map line_of es ++ last ∷ [];
      old = e.line;
      now = l;
      was = refl;
      is = refl;
      content = h;
    })
    (to_within (ContentSet r.body path new e.line.content) (λ l. ContentSet r.body path new e.line.content l.content)
    (λ c. record e.line { content = c }) _ _ (in_content (replacement new) r.body path e.line.content)
    (λ c h. h) (content_set r.body path new e.line.content)))
    (to_within (λ p. LinesSet (after_line r e.line) path new (map line_of es ++ last ∷ []) (page_lines p))
    (λ p. LinesSet r path new (map line_of (e ∷ es) ++ last ∷ []) (page_lines p))
    (λ b. record { ended = e ∷ b.ended; last = b.last }) (text_of (ended_leaves e)) []
    (in_lines (in_line (replacement new) path) (after_line r e.line) es last)
    (λ p h. record {
      pre = e.line ∷ h.pre;
      post = h.post;
      old = h.old;
      now = h.now;
      was = ap (λ l. e.line ∷ l) h.was;
      is = ap (λ l. e.line ∷ l) h.is;
      content = h.content;
    })
    (lines_set path new (after_line r e.line) es last))

-- ---- the paths of keyvals

pub ends_keys : (q : List Part) (k : List ℕ) (ks : List (List ℕ)) → EndsInKey (q ++ map key (k ∷ ks))
ends_keys q k [] = (q, k, refl)
ends_keys q k (l ∷ ks) =
    let h = ends_keys (q ++ key k ∷ []) l ks in
    (h.0, h.1, sym (append_assoc q (key k ∷ []) (map key (l ∷ ks))) ∙ h.2)

pub longer : (q : List Part) (b : Part) (bs : List Part) → Reaches (q ++ b ∷ bs) q → ⊥
longer q b bs u =
    let e : length q ≡ length ((q ++ b ∷ bs) ++ u.0) = ap length (strip-sound (q ++ b ∷ bs) q u.0 u.1) in
    omega (arith, e, length-append (q ++ b ∷ bs) u.0, length-append q (b ∷ bs))

pub keyval_alone : (body : List Part) (name : Name) (v : Value)
    → SomeOf (IsAloneAt (body ++ step 0 (Some name))) (map (below body) (keyval_mentions name v))
keyval_alone body name v =
    let p : List Part = map key (keys_of name.key) in
    let ms : List Mention = valued_mentions (value (body_fact v.body)) (entries_mentions 0 v.nested) in
    some_alone_below body p (keyed_mentions (keys_of name.key) ms)
    (subst (λ (l : List Mention). SomeOf (IsAloneAt p) l) (sym (keyed_split (keys_of name.key) ms))
    (some_right (IsAloneAt p) (keyed_mentions (keys_of name.key) []) (map (below p) ms)
    (inl (record { path = append-nil p; kind = refl }))))

pub from_closed : (p at : List Part) (ms : List Mention) → ClosedFrom p at ms ms → (Reaches p at → ⊥)
    → (SomeOf (IsSolidAt p) ms → ⊥) → AllOf (IsDisjoint p) ms
from_closed p at ms h f g =
    disjoint_closed p ms ms (all_map (λ m. IsUnder p m → SomeOf (IsSolidAt p) ms ⊎ Reaches p at)
    (λ m. IsUnder p m → SomeOf (IsSolidAt p) ms) (λ m k u. elim (k u) [ inl s ↦ s | inr v ↦ absurd (f v) ]) ms h) g

-- what a keyval's line says, and where the reading is after it
pub mentions_of : (r : Reading) (l : Line) (name : Name) (v : Value) → l.content ≡ keyval name v
    → line_mentions r l ≡ map (below r.body) (keyval_mentions name v)
mentions_of r l name v e =
    ap (λ (c : Content).
    line_mentions r (record { before = l.before; content = c; after = l.after; comment = l.comment })) e

pub reading_of : (r : Reading) (l : Line) (name : Name) (v : Value) → l.content ≡ keyval name v → after_line r l ≡ r
reading_of r l name v e =
    ap (λ (c : Content). after_line r (record { before = l.before; content = c; after = l.after; comment = l.comment }))
    e

pub whole_mentions : (pre post : List Line) (l : Line) (name : Name) (v : Value) → l.content ≡ keyval name v
    → lines_mentions start (pre ++ l ∷ post) ≡ lines_mentions start pre
    ++ (map (below (reading_after_lines start pre).body) (keyval_mentions name v)
    ++ lines_mentions (reading_after_lines start pre) post)
whole_mentions pre post l name v e =
    let r : Reading = reading_after_lines start pre in
    lines_mentions-append start pre (l ∷ post)
    ∙ ap (λ x. lines_mentions start pre ++ (x ++ lines_mentions (after_line r l) post)) (mentions_of r l name v e)
    ∙ ap (λ (x : Reading).
    lines_mentions start pre ++ (map (below r.body) (keyval_mentions name v) ++ lines_mentions x post))
    (reading_of r l name v e)

-- What one line says before and after; what is said to its left and to its right is elsewhere.
pub record IsLineSet (path : List Part) (new : Value) (left mid now right : List Mention) : Type 0 where
  pub set : IsSet path new mid now
  pub disjoint_left : AllOf (IsDisjoint path) left
  pub disjoint_right : AllOf (IsDisjoint path) right

pub line_set : (path : List Part) (new : Value) (from to : List Line) → Rules (lines_mentions start from)
    → (h : LinesSet start path new from to) → (let r : Reading = reading_after_lines start h.pre in
    IsLineSet path new (lines_mentions start h.pre) (map (below r.body) (keyval_mentions h.content.name h.content.old))
    (map (below r.body) (keyval_mentions h.content.name h.content.now)) (lines_mentions r h.post))
line_set path new from to rules h =
    let c = h.content in
    let r : Reading = reading_after_lines start h.pre in
    let p : List Part = r.body ++ step 0 (Some c.name) in
    let left : List Mention = lines_mentions start h.pre in
    let right : List Mention = lines_mentions r h.post in
    let mid : List Mention = map (below r.body) (keyval_mentions c.name c.old) in
    let mid' : List Mention = map (below r.body) (keyval_mentions c.name c.now) in
    let old_mentioned : lines_mentions start from ≡ left ++ (mid ++ right) =
    ap (lines_mentions start) h.was ∙ whole_mentions h.pre h.post h.old c.name c.old c.was in
    let all_rules : Rules (left ++ (mid ++ right)) = subst Rules old_mentioned rules in
    let outer = pairs_split Allowed left (mid ++ right) all_rules in
    let inner = pairs_split Allowed mid right outer.right in
    let ends : EndsInKey p = ends_keys r.body (key_value c.name.key.first) (map further_value c.name.key.more) in
    let alone : SomeOf (IsAloneAt p) mid = keyval_alone r.body c.name c.old in
    let disjoint_left : AllOf (IsDisjoint p) left =
    from_closed p [] left (lines_closed p start h.pre ends) (λ v. never_root p ends v)
    (λ s. clash_before p left (mid ++ right) s (some_left (IsAloneAt p) mid right alone) all_rules) in
    let disjoint_right : AllOf (IsDisjoint p) right =
    from_closed p r.body right (lines_closed p r h.post ends) (λ v. longer r.body _ _ v)
    (λ s. clash_after p mid right alone s outer.right) in
    let nested_rules : Rules (entries_mentions 0 c.old.nested) =
    rules_named 0 (Some c.name) (body_fact c.old.body) (entries_mentions 0 c.old.nested)
    (rules_below r.body (keyval_mentions c.name c.old) inner.left) in
    let one : IsSet (step 0 (Some c.name) ++ c.more) new (keyval_mentions c.name c.old) (keyval_mentions c.name c.now) =
    set_named 0 (Some c.name) (body_fact c.old.body) (body_fact c.now.body) (entries_mentions 0 c.old.nested)
    (entries_mentions 0 c.now.nested) c.more new (c.changed nested_rules) in
    let two : IsSet (p ++ c.more) new mid mid' =
    subst (λ (q : List Part). IsSet q new mid mid') (sym (append_assoc r.body (step 0 (Some c.name)) c.more))
    (set_below r.body (step 0 (Some c.name) ++ c.more) new (keyval_mentions c.name c.old) (keyval_mentions c.name c.now)
    one) in
    subst (λ (q : List Part). IsLineSet q new left mid mid' right) (sym c.place)
    (record {
      set = two;
      disjoint_left = all_longer p c.more left disjoint_left;
      disjoint_right = all_longer p c.more right disjoint_right;
    })

mentions_set : (path : List Part) (new : Value) (from to : List Line) → Rules (lines_mentions start from)
    → LinesSet start path new from to → IsSet path new (lines_mentions start from) (lines_mentions start to)
mentions_set path new from to rules h =
    let c = h.content in
    let r : Reading = reading_after_lines start h.pre in
    let left : List Mention = lines_mentions start h.pre in
    let right : List Mention = lines_mentions r h.post in
    let mid : List Mention = map (below r.body) (keyval_mentions c.name c.old) in
    let mid' : List Mention = map (below r.body) (keyval_mentions c.name c.now) in
    let old_mentioned : lines_mentions start from ≡ left ++ (mid ++ right) =
    ap (lines_mentions start) h.was ∙ whole_mentions h.pre h.post h.old c.name c.old c.was in
    let new_mentions : lines_mentions start to ≡ left ++ (mid' ++ right) =
    ap (lines_mentions start) h.is ∙ whole_mentions h.pre h.post h.now c.name c.now c.is in
    let one = line_set path new from to rules h in
    let all : IsSet path new (left ++ (mid ++ right)) (left ++ (mid' ++ right)) =
    set_beside path new mid mid' left right one.disjoint_left one.disjoint_right one.set in
    subst (λ (l : List Mention). IsSet path new l (lines_mentions start to)) (sym old_mentioned)
    (subst (λ (l : List Mention). IsSet path new (left ++ (mid ++ right)) l) (sym new_mentions) all)

pub each_to : {A : Type 0} (P Q : A → Type 0) (o : Option (Changed A)) → ((x : A) → P x → Q x) → EachTo P o → EachTo Q o
each_to P Q None f h = tt
each_to P Q (Some c) f h = f c.to h

-- Setting changes one line.
pub one_line_set : (s : Document) (path : List Part) (new : Value)
    → EachTo (λ s'. LinesSet start path new (lines s) (lines s')) (change s (set path new))
one_line_set s path new =
    to_within (λ p. LinesSet start path new (lines s) (page_lines p))
    (λ s'. LinesSet start path new (lines s) (lines s')) (with_page s) _ []
    (in_lines (in_line (replacement new) path) start s.ended s.last)
    (λ p h. h) (lines_set path new start s.ended s.last)

-- Setting replaces the run of mentions of the value at the path.
pub document_set : (s : Document) (path : List Part) (new : Value) → Rules (mentions_in s)
    → EachTo (λ s'. IsSet path new (mentions_in s) (mentions_in s')) (change s (set path new))
document_set s path new rules =
    each_to (λ s'. LinesSet start path new (lines s) (lines s')) (λ s'. IsSet path new (mentions_in s) (mentions_in s'))
    (change s (set path new))
    (λ s' h. mentions_set path new (lines s) (lines s') rules h) (one_line_set s path new)

-- ---- its rules

pub cancel : (p a b : List Part) → p ++ a ≡ p ++ b → a ≡ b
cancel p a b e = let k : Some a ≡ Some b = sym (strip-append p a) ∙ ap (strip p) e ∙ strip-append p b in cc

allowed_below : (p : List Part) (m : Mention) (ms : List Mention) → AllOf (Allowed m) ms
    → AllOf (Allowed (below p m)) (map (below p) ms)
allowed_below p m [] h = tt
allowed_below p m (x ∷ ms) h = ((λ e. h.0 (cancel p m.path x.path e)), allowed_below p m ms h.1)

pub rules_outside : (p : List Part) (ms : List Mention) → Rules ms → Rules (map (below p) ms)
rules_outside p [] h = tt
rules_outside p (m ∷ ms) h = (allowed_below p m ms h.0, rules_outside p ms h.1)

pub under_below : (p : List Part) (ms : List Mention) → AllOf (IsUnder p) (map (below p) ms)
under_below p [] = tt
under_below p (m ∷ ms) = ((m.path, strip-append p m.path), under_below p ms)

pub under_run : (p : List Part) (mention_kind : MentionKind) (ms : List Mention)
    → AllOf (IsUnder p) (run p mention_kind ms)
under_run p mention_kind ms = (([], ap (strip p) (sym (append-nil p)) ∙ strip-append p []), under_below p ms)

-- what is exclusive allows the same
head_allowed : (p : List Part) (a b : MentionKind) (ms : List Mention) → exclusive a ≡ true → exclusive b ≡ true
    → AllOf (Allowed (record { path = []; kind = a })) ms
    → AllOf (Allowed (record { path = p; kind = b })) (map (below p) ms)
head_allowed p a b [] ha hb h = tt
head_allowed p a b (x ∷ ms) ha hb h = (
  (λ e.
      let root : [] ≡ x.path = cancel p [] x.path (append-nil p ∙ e) in
      let was : kinds_allow a x.kind ≡ not (solid x.kind) = rw ha refl in
      let now : kinds_allow b x.kind ≡ not (solid x.kind) = rw hb refl in
      now ∙ sym was ∙ h.0 root),
  head_allowed p a b ms ha hb h.1,
)

pub rules_set : (path : List Part) (new : Value) (from to : List Mention) → IsSet path new from to → Rules from
    → Rules (mentions_of_value new) → Rules to
rules_set path new from to h rules value_rules =
    let now : List Mention = run path (tag_of h.name (body_fact new.body)) (entries_mentions 0 new.nested) in
    let run_rules : Rules now = (
      head_allowed path (item (body_fact new.body)) (tag_of h.name (body_fact new.body)) (entries_mentions 0 new.nested)
          refl (tag_alone h.name (body_fact new.body)) value_rules.0,
      rules_outside path (entries_mentions 0 new.nested) value_rules.1,
    ) in
    subst Rules (sym h.is)
    (rules_replaced path h.before (run path (tag_of h.name h.fact) (entries_mentions 0 h.entries)) now h.after
    (subst Rules h.was rules) h.disjoint_before h.disjoint_after
    (under_run path (tag_of h.name (body_fact new.body)) (entries_mentions 0 new.nested)) run_rules)

-- ---- its tree

abbrev facts_of : List MentionKind → Option Fact
facts_of l = first_of (filter_map fact_of l)

cons_facts : (a b : MentionKind) (l : List MentionKind) → fact_of a ≡ fact_of b → facts_of (a ∷ l) ≡ facts_of (b ∷ l)
cons_facts a b l e = ap (λ (o : Option Fact). first_of (cons_option o (filter_map fact_of l))) e

pub valued_facts : (a b : MentionKind) (ms : List Mention) (r : List Part) → fact_of a ≡ fact_of b → (c : Bool)
    → same_path [] r ≡ c → fact_at r (valued_mentions a ms) ≡ fact_at r (valued_mentions b ms)
valued_facts a b ms r e true k = rw k (cons_facts a b (kinds_at r ms) e)
valued_facts a b ms r e false k = rw k refl

pub run_facts : (path q r : List Part) (tag : MentionKind) (f : Fact) (ms : List Mention) → fact_of tag ≡ Some f
    → strip path q ≡ Some r → fact_at q (run path tag ms) ≡ fact_at r (valued_mentions (item f) ms)
run_facts path q r tag f ms stated e =
    let whole : q ≡ path ++ r = strip-sound path q r e in
    let top : run path tag ms ≡ map (below path) (valued_mentions tag ms) =
    ap (λ (p : List Part). record { path = p; kind = tag } ∷ map (below path) ms) (sym (append-nil path)) in
    ap (λ (x : List Part). fact_at x (run path tag ms)) whole
    ∙ ap (λ (l : List Mention). fact_at (path ++ r) l) top
    ∙ ap facts_of (kinds_at-below path r (valued_mentions tag ms))
    ∙ valued_facts tag (item f) ms r stated (same_path [] r) refl

tree_by : (path : List Part) (new : Value) (from to : List Mention) → IsSet path new from to
    → (q : List Part) (o : Option (List Part)) → strip path q ≡ o
    → fact_at q to ≡ fact_from from (mentions_of_value new) (elim o [ Some more ↦ given more | None ↦ from_path q ])
tree_by path new from to h q None e =
    let now : List Mention = run path (tag_of h.name (body_fact new.body)) (entries_mentions 0 new.nested) in
    let old : List Mention = run path (tag_of h.name h.fact) (entries_mentions 0 h.entries) in
    ap (fact_at q) h.is
    ∙ fact_elsewhere path q h.before old now h.after
    (under_run path (tag_of h.name h.fact) (entries_mentions 0 h.entries))
    (under_run path (tag_of h.name (body_fact new.body)) (entries_mentions 0 new.nested)) e
    ∙ ap (fact_at q) (sym h.was)
tree_by path new from to h q (Some r) e =
    let now : List Mention = run path (tag_of h.name (body_fact new.body)) (entries_mentions 0 new.nested) in
    ap (fact_at q) h.is
    ∙ fact_under path q r h.before now h.after h.disjoint_before h.disjoint_after e
    ∙ run_facts path q r (tag_of h.name (body_fact new.body)) (body_fact new.body) (entries_mentions 0 new.nested)
    (tag_stated h.name (body_fact new.body)) e

pub tree_set : (path : List Part) (new : Value) (from to : List Mention) → IsSet path new from to
    → IsTreeOf from (set path new) to
tree_set path new from to h q = tree_by path new from to h q (strip path q) refl

-- Setting a value keeps the rules, and changes the tree as it says.
pub record IsLawful (s : Document) (e : Edit) (s' : Document) : Type 0 where
  pub rules : Rules (mentions_in s')
  pub tree : IsTreeOf (mentions_in s) e (mentions_in s')

pub set_law : (s : Document) (path : List Part) (new : Value) → Rules (mentions_in s) → Rules (mentions_of_value new)
    → EachTo (IsLawful s (set path new)) (change s (set path new))
set_law s path new rules value_rules =
    each_to (λ s'. IsSet path new (mentions_in s) (mentions_in s')) (IsLawful s (set path new))
    (change s (set path new))
    (λ s' h.
    record {
      rules = rules_set path new (mentions_in s) (mentions_in s') h rules value_rules;
      tree = tree_set path new (mentions_in s) (mentions_in s') h;
    })
    (document_set s path new rules)
