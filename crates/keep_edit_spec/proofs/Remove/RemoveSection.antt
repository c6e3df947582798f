-- `remove` of a defined section: its header and its keyvals go; the rules and the tree.
--
-- The lines of a body mention what is under its path alone, and do not change where the reading is; the lines after it
-- are read alike without them (`body_is`, by induction over the lines). So the mentions of the section are one run,
-- which is cut out (`section_cut`). To be a cut, nothing else may be left at the path or under it. Beside a definition
-- the rules allow only headers that go through the path (`through_earlier`, `through_later`, one case for each kind);
-- and the edit is refused where one does (`has_through`).
--
-- Theorems: `section_cut`; `begins_section`; `section_dropped`: after the section is dropped the rules hold, and the
-- tree has changed as it should.
use Rattle.std.proofs.Common.{◌≡◌, ℕ, zero, suc, Bool, true, false, cond, List, [], ◌∷◌, ◌++◌, map, take, drop, refl}
use Rattle.std.proofs.Common.{sym, ap, subst, ◌∙◌, append_assoc, Option, Some, None, inl, inr}
use Rattle.std.specs.Prelude.{◌==◌}
use Rattle.std.proofs.lemmas.List.{append-nil, take-append-drop}
use Rattle.keep_syntax.specs.Tree.{Written, Gap, Key, Content, blank, keyval, header, element, Line, Document}
use Rattle.keep_path.specs.Path.{Part, key, index, same_path}
use Rattle.keep_meaning.specs.Marks.{MentionKind, through, past, define, passed, Mention, below, fact_of, Reading}
use Rattle.keep_meaning.specs.Marks.{start, elements_of, entered_path, passing_mentions, header_path, header_prefixes}
use Rattle.keep_meaning.specs.Meaning.{keys_of, keyval_mentions, lines_mentions, reading_after_lines, lines}
use Rattle.keep_meaning.specs.Meaning.{mentions_in}
use Rattle.keep_meaning.specs.Nodes.{is_at, has, is_through}
use Rattle.keep_edit_spec.specs.Look.{strip}
use Rattle.keep_edit_spec.specs.Lines.{drop_lines, last_line, begins, body_length, more_lines}
use Rattle.keep_edit_spec.specs.Edits.{remove, without_lines}
use Rattle.keep_edit_spec.specs.Trees.{IsTreeOf}
use Rattle.keep_edit_spec.proofs.Common.Runs.{AllOf, SomeOf, pairs_split, all_join, some_left, some_right, Allowed}
use Rattle.keep_edit_spec.proofs.Common.Runs.{Rules, kinds_allow, solid, IsDisjoint, IsUnder, same_path-sound}
use Rattle.keep_edit_spec.proofs.Common.Runs.{same_path-refl, strip-append}
use Rattle.keep_edit_spec.proofs.Common.SetLaw.{IsSolidAt, EachTo}
use Rattle.keep_edit_spec.proofs.Common.LineLaws.{EndsInKey, lines_closed, lines_mentions-append, never_root, last_snoc}
use Rattle.keep_edit_spec.proofs.Common.LineLaws.{last_from}
use Rattle.keep_edit_spec.proofs.Common.SetDocument.{IsLawful, page_lines, from_closed, under_below}
use Rattle.keep_edit_spec.proofs.Common.Cuts.{IsCut, rules_cut, tree_cut}
use Rattle.keep_edit_spec.proofs.Remove.RemoveLines.{IsFound, found, without_mentions, drop_next}
use Rattle.keep_edit_spec.proofs.Common.InsertLaw.{or_true}

-- ---- the lines of a body

-- The lines up to the last keyval before the next header speak of what is under the body, and leave the reading; what
-- those after them say does not depend on the body.
pub record IsBody (r : Reading) (ls : List Line) : Type 0 where
  pub under : AllOf (IsUnder r.body) (lines_mentions r (take (body_length ls) ls))
  pub keeps : reading_after_lines r (take (body_length ls) ls) ≡ r
  pub further : (b : List Part)
      → lines_mentions r (drop (body_length ls) ls)
      ≡ lines_mentions (record { tables = r.tables; body = b }) (drop (body_length ls) ls)

blank_body : (r : Reading) (before after : Gap) (comment : Option Written) (ls : List Line) (k : ℕ)
    → (let l : Line = record { before = before; content = blank; after = after; comment = comment } in
    AllOf (IsUnder r.body) (lines_mentions r (take k ls)) → reading_after_lines r (take k ls) ≡ r
    → ((b : List Part)
    → lines_mentions r (drop k ls) ≡ lines_mentions (record { tables = r.tables; body = b }) (drop k ls))
    → AllOf (IsUnder r.body) (lines_mentions r (take (more_lines false k) (l ∷ ls)))
    × (reading_after_lines r (take (more_lines false k) (l ∷ ls)) ≡ r)
    × ((b : List Part)
    → lines_mentions r (drop (more_lines false k) (l ∷ ls))
    ≡ lines_mentions (record { tables = r.tables; body = b }) (drop (more_lines false k) (l ∷ ls))))
blank_body r before after comment ls zero u k f = (tt, refl, λ b. f b)
blank_body r before after comment ls (suc m) u k f = (u, k, λ b. f b)

content_body : (r : Reading) (before after : Gap) (comment : Option Written) (c : Content) (ls : List Line)
    → IsBody r ls → IsBody r (record { before = before; content = c; after = after; comment = comment } ∷ ls)
content_body r before after comment blank ls h =
    let (u, k, f) = blank_body r before after comment ls (body_length ls) h.under h.keeps h.further in
    record { under = u; keeps = k; further = f }
content_body r before after comment (keyval name v) ls h = record {
  under = all_join (IsUnder r.body) (map (below r.body) (keyval_mentions name v))
      (lines_mentions r (take (body_length ls) ls)) (under_below r.body (keyval_mentions name v)) h.under;
  keeps = h.keeps;
  further = h.further;
}
content_body r before after comment (header b k a) ls h = record { under = tt; keeps = refl; further = λ b'. refl }
content_body r before after comment (element b k a) ls h = record { under = tt; keeps = refl; further = λ b'. refl }

pub body_is : (r : Reading) (ls : List Line) → IsBody r ls
body_is r [] = record { under = tt; keeps = refl; further = λ b. refl }
body_is r (l ∷ ls) = content_body r l.before l.after l.comment l.content ls (body_is r ls)

-- ---- beside a definition there is only what goes through it

pub record IsThroughAt (p : List Part) (m : Mention) : Type 0 where
  pub path : m.path ≡ p
  pub kind : is_through m.kind ≡ true

through_earlier : (a : MentionKind) → solid a ≡ true → kinds_allow a define ≡ true → is_through a ≡ true
through_earlier through s e = refl
through_earlier other s e = absurd cc

through_later : (a : MentionKind) → solid a ≡ true → kinds_allow define a ≡ true → is_through a ≡ true
through_later through s e = refl
through_later other s e = absurd cc

-- of those before it
solid_before : (p : List Part) (xs ys : List Mention) → SomeOf (IsSolidAt p) xs
    → Rules (xs ++ record { path = p; kind = define } ∷ ys) → SomeOf (IsThroughAt p) xs
solid_before p [] ys s rules = absurd s
solid_before p (x ∷ xs) ys (inl h) rules =
    let across = (pairs_split Allowed (x ∷ xs) (record { path = p; kind = define } ∷ ys) rules).across in
    inl (record { path = h.path; kind = through_earlier x.kind h.kind (across.0.0 h.path) })
solid_before p (x ∷ xs) ys (inr s) rules = inr (solid_before p xs ys s rules.1)

solid_after : (p : List Part) (ys : List Mention) → SomeOf (IsSolidAt p) ys
    → AllOf (Allowed (record { path = p; kind = define })) ys → SomeOf (IsThroughAt p) ys
solid_after p [] s h = absurd s
solid_after p (y ∷ ys) (inl g) h = inl (record { path = g.path; kind = through_later y.kind g.kind (h.0 (sym g.path)) })
solid_after p (y ∷ ys) (inr s) h = inr (solid_after p ys s h.1)

has_step : (p : List Part) (m : Mention) (ms : List Mention) (b : Bool) → is_at p m ≡ b → has is_through p ms ≡ true
    → has is_through p (m ∷ ms) ≡ true
has_step p m ms true e h = rw e (or_true (is_through m.kind) (has is_through p ms) h)
has_step p m ms false e h = rw e h

has_through : (p : List Part) (ms : List Mention) → SomeOf (IsThroughAt p) ms → has is_through p ms ≡ true
has_through p [] s = absurd s
has_through p (m ∷ ms) (inl h) =
    let e : is_at p m ≡ true = subst (λ (q : List Part). same_path m.path q ≡ true) h.path (same_path-refl m.path) in
    let t : is_through m.kind ≡ true = h.kind in
    rw e (rw t refl)
has_through p (m ∷ ms) (inr s) = has_step p m ms (is_at p m) refl (has_through p ms s)

-- ---- the section

way_silent : (tables : List (List Part)) (q : List Part) (b : Bool)
    → AllOf (λ (m : Mention). fact_of m.kind ≡ None)
    (cond b (record { path = q; kind = through } ∷ [])
    (record { path = q; kind = past } ∷ record { path = entered_path tables q; kind = passed } ∷ []))
way_silent tables q true = (refl, tt)
way_silent tables q false = (refl, (refl, tt))

pub silent_prefixes : (tables : List (List Part)) (at : List Part) (keys : List (List ℕ))
    → AllOf (λ (m : Mention). fact_of m.kind ≡ None) (header_prefixes tables at keys)
silent_prefixes tables at [] = tt
silent_prefixes tables at (k ∷ []) = tt
silent_prefixes tables at (k ∷ l ∷ ks) =
    let q : List Part = at ++ key k ∷ [] in
    all_join (λ (m : Mention). fact_of m.kind ≡ None) (passing_mentions tables q)
    (header_prefixes tables (entered_path tables q) (l ∷ ks)) (way_silent tables q (0 == elements_of q tables))
    (silent_prefixes tables (entered_path tables q) (l ∷ ks))

regroup : (left prefixes run right : List Mention) (d : Mention)
    → left ++ ((prefixes ++ d ∷ []) ++ (run ++ right)) ≡ left ++ ((prefixes ++ (d ∷ run)) ++ right)
regroup left prefixes run right d = simp append_assoc refl

regroup_two : (left prefixes run right : List Mention) (d : Mention)
    → left ++ ((prefixes ++ (d ∷ run)) ++ right) ≡ (left ++ prefixes) ++ (d ∷ (run ++ right))
regroup_two left prefixes run right d = simp append_assoc refl

-- a header and its body, taken out of the lines
pub section_cut : (pre post : List Line) (l : Line) (b : Gap) (k : Key) (a : Gap) → l.content ≡ header b k a
    → (let r : Reading = reading_after_lines start pre in
    let p : List Part = header_path r.tables [] (keys_of k) in
    EndsInKey p → Rules (lines_mentions start (pre ++ l ∷ post))
    → has is_through p (lines_mentions start (pre ++ l ∷ post)) ≡ false
    → IsCut p (lines_mentions start (pre ++ l ∷ post))
    (lines_mentions start pre ++ lines_mentions r (drop (body_length post) post)))
section_cut pre post l b k a e ends rules single =
    let r : Reading = reading_after_lines start pre in
    let p : List Part = header_path r.tables [] (keys_of k) in
    let r1 : Reading = record { tables = r.tables; body = p } in
    let n : ℕ = body_length post in
    let body = body_is r1 post in
    let left : List Mention = lines_mentions start pre in
    let prefixes : List Mention = header_prefixes r.tables [] (keys_of k) in
    let d : Mention = record { path = p; kind = define } in
    let run : List Mention = lines_mentions r1 (take n post) in
    let right : List Mention = lines_mentions r1 (drop n post) in
    let post_mentions : lines_mentions r1 post ≡ run ++ right =
    ap (lines_mentions r1) (sym (take-append-drop n post)) ∙ lines_mentions-append r1 (take n post) (drop n post)
    ∙ ap (λ (x : Reading). run ++ lines_mentions x (drop n post)) body.keeps in
    let whole : lines_mentions start (pre ++ l ∷ post) ≡ left ++ ((prefixes ++ (d ∷ run)) ++ right) =
    lines_mentions-append start pre (l ∷ post)
    ∙ ap (λ (c : Content).
    left ++ lines_mentions r (record { before = l.before; content = c; after = l.after; comment = l.comment } ∷ post)) e
    ∙ ap (λ x. left ++ ((prefixes ++ d ∷ []) ++ x)) post_mentions
    ∙ regroup left prefixes run right d in
    let all : Rules (left ++ ((prefixes ++ (d ∷ run)) ++ right)) = subst Rules whole rules in
    let flat : Rules ((left ++ prefixes) ++ (d ∷ (run ++ right))) =
    subst Rules (regroup_two left prefixes run right d) all in
    let never : SomeOf (IsThroughAt p) ((left ++ prefixes) ++ (d ∷ (run ++ right))) → ⊥ = λ s.
    let t : has is_through p (lines_mentions start (pre ++ l ∷ post)) ≡ true =
    ap (has is_through p) (whole ∙ regroup_two left prefixes run right d)
    ∙ has_through p ((left ++ prefixes) ++ (d ∷ (run ++ right))) s in
    absurd cc in
    let allowed : AllOf (Allowed d) (run ++ right) =
    (pairs_split Allowed (left ++ prefixes) (d ∷ (run ++ right)) flat).right.0 in
    let r0 : Reading = record { tables = r.tables; body = [] } in
    let same : lines_mentions r0 (drop n post) ≡ right = sym (body.further []) in
    record {
      before = left;
      ways = prefixes;
      run = d ∷ run;
      after = right;
      was = whole;
      is = ap (λ x. left ++ x) (sym (body_further r p post) ∙ refl);
      disjoint_before = from_closed p [] left (lines_closed p start pre ends) (λ v. never_root p ends v)
          (λ s. never (some_left (IsThroughAt p) (left ++ prefixes) (d ∷ (run ++ right))
          (solid_before p (left ++ prefixes) (run ++ right) (some_left (IsSolidAt p) left prefixes s) flat)));
      disjoint_after = subst (λ (x : List Mention). AllOf (IsDisjoint p) x) same
          (from_closed p [] (lines_mentions r0 (drop n post)) (lines_closed p r0 (drop n post) ends)
          (λ v. never_root p ends v)
          (λ s. never (some_right (IsThroughAt p) (left ++ prefixes) (d ∷ (run ++ right))
          (inr (solid_after p (run ++ right)
          (some_right (IsSolidAt p) run right (subst (λ (x : List Mention). SomeOf (IsSolidAt p) x) same s))
          allowed)))));
      silent = silent_prefixes r.tables [] (keys_of k);
      under = (([], ap (strip p) (sym (append-nil p)) ∙ strip-append p []), body.under);
    }
  where
    body_further : (r : Reading) (p : List Part) (post : List Line)
        → lines_mentions (record { tables = r.tables; body = p }) (drop (body_length post) post)
        ≡ lines_mentions r (drop (body_length post) post)
    body_further r p post = (body_is (record { tables = r.tables; body = p }) post).further r.body

-- the header line that begins the body of a path that ends in a key
pub record IsSection (r : Reading) (path : List Part) (c : Content) : Type 0 where
  pub before : Gap
  pub keys : Key
  pub after : Gap
  pub was : c ≡ header before keys after
  pub place : header_path r.tables [] (keys_of keys) ≡ path

pub begins_section : (path : List Part) (r : Reading) (before after : Gap) (comment : Option Written) (c : Content)
    → EndsInKey path
    → begins path r (record { before = before; content = c; after = after; comment = comment }) ≡ true
    → IsSection r path c
begins_section path r before after comment blank ends e = absurd cc
begins_section path r before after comment (keyval name v) ends e = absurd cc
begins_section path r before after comment (header b k a) ends e =
    record {
      before = b;
      keys = k;
      after = a;
      was = refl;
      place = same_path-sound (header_path r.tables [] (keys_of k)) path e;
    }
begins_section path r before after comment (element b k a) ends e =
    let at : List Part = header_path r.tables [] (keys_of k) in
    let n : ℕ = elements_of at r.tables in
    let whole : at ++ index n ∷ [] ≡ ends.0 ++ key ends.1 ∷ [] = same_path-sound (at ++ index n ∷ []) path e ∙ ends.2 in
    let same : index n ≡ key ends.1 =
    sym (last_snoc (index n) (index n) at) ∙ ap (last_from (index n)) whole ∙ last_snoc (index n) (key ends.1) ends.0 in
    absurd cc

section_by : (s : Document) (path : List Part) → EndsInKey path → Rules (mentions_in s)
    → has is_through path (mentions_in s) ≡ false → (o : Option ℕ) → IsFound (begins path) start (lines s) o
    → EachTo (IsLawful s (remove path))
    (elim o [ None ↦ None | Some i ↦ without_lines s i (suc (body_length (drop (suc i) (lines s)))) ])
section_by s path ends rules single None h = tt
section_by s path ends rules single (Some i) h =
    let r : Reading = reading_after_lines start h.pre in
    let n : ℕ = body_length h.post in
    let c = begins_section path r h.line.before h.line.after h.line.comment h.line.content ends h.passes in
    let p : List Part = header_path r.tables [] (keys_of c.keys) in
    let from : List Mention = lines_mentions start (h.pre ++ h.line ∷ h.post) in
    let to : List Mention =
    lines_mentions start (page_lines (drop_lines i (suc (body_length (drop (suc i) (lines s)))) s.ended s.last).to) in
    let post_is : drop (suc i) (lines s) ≡ h.post =
    ap (drop (suc i)) h.was ∙ ap (λ (m : ℕ). drop (suc m) (h.pre ++ h.line ∷ h.post)) (sym h.number)
    ∙ drop_next h.pre h.post h.line in
    let is : to ≡ lines_mentions start h.pre ++ lines_mentions r (drop n h.post) =
    without_mentions s (begins path) i (suc (body_length (drop (suc i) (lines s)))) h
    ∙ ap (λ (x : List Line). lines_mentions start h.pre ++ lines_mentions r (drop (body_length x) h.post)) post_is in
    let rules' : Rules from = subst (λ (x : List Line). Rules (lines_mentions start x)) h.was rules in
    let single' : has is_through p from ≡ false =
    subst (λ (q : List Part). has is_through q from ≡ false) (sym c.place)
    (subst (λ (x : List Line). has is_through path (lines_mentions start x) ≡ false) h.was single) in
    let ends' : EndsInKey p = subst EndsInKey (sym c.place) ends in
    let cut : IsCut p from to =
    subst (λ (x : List Mention). IsCut p from x) (sym is)
    (section_cut h.pre h.post h.line c.before c.keys c.after c.was ends' rules' single') in
    record {
      rules = rules_cut p from to cut rules';
      tree = subst (λ (x : List Line). IsTreeOf (lines_mentions start x) (remove path) to) (sym h.was)
          (subst (λ (q : List Part). IsTreeOf from (remove q) to) c.place (tree_cut p from to ends' cut));
    }

-- A defined section dropped, where no header goes through it: the rules are kept, and the tree is changed as stated.
pub section_dropped : (s : Document) (path : List Part) → EndsInKey path → Rules (mentions_in s)
    → has is_through path (mentions_in s) ≡ false
    → EachTo (IsLawful s (remove path))
    (elim (last_line (begins path) start (lines s)) [
      | None ↦ None
      | Some i ↦
          without_lines s i (suc (body_length (drop (suc i) (lines s))))
    ])
section_dropped s path ends rules single =
    section_by s path ends rules single (last_line (begins path) start (lines s)) (found (begins path) start (lines s))
