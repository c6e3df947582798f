-- `remove` of an element of an array of tables: its header and its keyvals go, and the paths after it go down by one.
--
-- As for a section, the lines of the element are one run of mentions that is cut out (`element_cut`). What is new is
-- that elements are numbered. The lines after the cut are read with one element less of the array, so their paths have
-- a number one lower: `shifted` of another file, from where the reading is with and without the element
-- (`after_shift`). The paths of the lines before the cut stay as they are (`start_shift`). Beside an element's line the
-- rules allow only what belongs to the array (`array_before`, `array_after`, one case for each kind), so nothing else
-- is under the path.
--
-- Theorems: `element_dropped`: after the element is dropped the rules hold, and the tree has changed as it should;
-- `all_before`: before an element's header only what belongs to the array is said at the array's path; `start_shift`.
use Rattle.std.proofs.Common.{◌≡◌, ℕ, suc, ◌+◌, Bool, true, false, cond, List, [], ◌∷◌, ◌++◌, map, take, drop, refl}
use Rattle.std.proofs.Common.{sym, ap, subst, ◌∙◌, append_assoc, arith, Option, Some, None, inl, inr}
use Rattle.std.proofs.lemmas.List.{map-append, append-nil, take-append-drop}
use Rattle.keep_syntax.specs.Tree.{Written, Gap, Key, Content, blank, keyval, header, element, Line, Document}
use Rattle.keep_path.specs.Path.{Part, same_path}
use Rattle.keep_meaning.specs.Marks.{MentionKind, past, begun, passed, element as kinds_element, Mention, fact_of}
use Rattle.keep_meaning.specs.Marks.{Reading, start, elements_of, header_path, header_prefixes}
use Rattle.keep_meaning.specs.Meaning.{key_value, further_value, keys_of, after_line, lines_mentions}
use Rattle.keep_meaning.specs.Meaning.{reading_after_lines, lines, mentions_in}
use Rattle.keep_meaning.specs.Nodes.{has, is_begun, is_passed}
use Rattle.keep_edit_spec.specs.Look.{strip}
use Rattle.keep_edit_spec.specs.Lines.{drop_lines, last_line, begins, body_length}
use Rattle.keep_edit_spec.specs.Edits.{remove, without_lines}
use Rattle.keep_edit_spec.specs.Trees.{IsTreeOf}
use Rattle.keep_edit_spec.proofs.Common.HeadersGo.{Goes, goes_bodies}
use Rattle.keep_edit_spec.proofs.Common.HeadersSay.{Says, says_bodies}
use Rattle.keep_edit_spec.proofs.Common.Runs.{AllOf, SomeOf, pairs_split, all_left, all_right, all_join, Allowed, Rules}
use Rattle.keep_edit_spec.proofs.Common.Runs.{kinds_allow, same_path-sound, same_path-refl, strip-append}
use Rattle.keep_edit_spec.proofs.Common.SetLaw.{EachTo}
use Rattle.keep_edit_spec.proofs.Common.LineLaws.{EndsInKey, lines_mentions-append}
use Rattle.keep_edit_spec.proofs.Common.SetDocument.{IsLawful, page_lines}
use Rattle.keep_edit_spec.proofs.Common.FromMarksLines.{path_ends}
use Rattle.keep_edit_spec.proofs.Common.Moves.{moved}
use Rattle.keep_edit_spec.proofs.Common.Doubles.{IsMentioned, some_has}
use Rattle.keep_edit_spec.proofs.Common.ThroughAlone.{none_mentioned}
use Rattle.keep_edit_spec.proofs.Append.AppendTable.{silent_prefixes}
use Rattle.keep_edit_spec.proofs.Common.Cuts.{IsCut}
use Rattle.keep_edit_spec.proofs.Remove.PartsGo.{PartsGo, parts_bodies}
use Rattle.keep_edit_spec.proofs.Remove.RemoveLines.{IsRemoval, IsFound, found, without_mentions, drop_next}
use Rattle.keep_edit_spec.proofs.Remove.RemoveSection.{body_is}
use Rattle.keep_edit_spec.proofs.Remove.RemoveRefusal.{lines_begun, never_begun}
use Rattle.keep_edit_spec.proofs.Remove.Shift.{shifted, element_at, disjoint_root, shifted_root}
use Rattle.keep_edit_spec.proofs.Remove.ShiftPrefixes.{IsShift, NotPassed, elements_more}
use Rattle.keep_edit_spec.proofs.Remove.ShiftLines.{array_mentions, AreShifted, all_both}
use Rattle.keep_edit_spec.proofs.Remove.ShiftMentioned.{lines_shift}
use Rattle.keep_edit_spec.proofs.Remove.ElementTree.{element_removal}

-- ---- beside the line of an element

array_before : (a : MentionKind) → kinds_allow a kinds_element ≡ true → array_mentions a ≡ true
array_before past e = refl
array_before kinds_element e = refl
array_before begun e = refl
array_before passed e = refl
array_before other e = absurd cc

array_after : (a : MentionKind) → kinds_allow kinds_element a ≡ true → array_mentions a ≡ true
array_after past e = refl
array_after kinds_element e = refl
array_after begun e = refl
array_after passed e = refl
array_after other e = absurd cc

abbrev pub IsOfArray : List Part → Mention → Type 0
IsOfArray p m = m.path ≡ p → array_mentions m.kind ≡ true

pub all_before : (p : List Part) (xs ys : List Mention) → Rules (xs ++ record { path = p; kind = kinds_element } ∷ ys)
    → AllOf (IsOfArray p) xs
all_before p [] ys rules = tt
all_before p (x ∷ xs) ys rules =
    let across = (pairs_split Allowed (x ∷ xs) (record { path = p; kind = kinds_element } ∷ ys) rules).across in
    ((λ e. array_before x.kind (across.0.0 e)), all_before p xs ys rules.1)

all_after : (p : List Part) (ys : List Mention) → AllOf (Allowed (record { path = p; kind = kinds_element })) ys
    → AllOf (IsOfArray p) ys
all_after p [] h = tt
all_after p (y ∷ ys) h = ((λ e. array_after y.kind (h.0 (sym e))), all_after p ys h.1)

-- ---- what the reading is, before the lines and after the element

pub start_shift : (prefix : List Part) → EndsInKey prefix → (n : ℕ) → AreShifted prefix n start start
start_shift prefix ends n = record {
  tables = record { others = λ q hq other. refl; side = inl (refl, omega arith) };
  body = sym (shifted_root prefix n ends);
  preserved = disjoint_root prefix n ends;
}

after_shift : (prefix : List Part) → EndsInKey prefix → (ts : List (List Part))
    → IsShift prefix (elements_of prefix ts) ts ts
    → AreShifted prefix (elements_of prefix ts) (record { tables = ts ++ prefix ∷ []; body = [] })
    (record { tables = ts; body = [] })
after_shift prefix ends ts h = record {
  tables = record {
    others =
        λ q hq other. h.others q hq other
        ∙ sym (elements_more q prefix ts ∙ ap (λ (b : Bool). elements_of q ts + cond b 1 0) (unlike q other)
        ∙ (let e : elements_of q ts + 0 ≡ elements_of q ts = omega arith in e));
    side = inr (omega (arith, one_more), omega (arith, one_more));
  };
  body = sym (shifted_root prefix (elements_of prefix ts) ends);
  preserved = disjoint_root prefix (elements_of prefix ts) ends;
}
  where
    one_more : elements_of prefix (ts ++ prefix ∷ []) ≡ elements_of prefix ts + 1
    one_more =
        elements_more prefix prefix ts ∙ ap (λ (b : Bool). elements_of prefix ts + cond b 1 0) (same_path-refl prefix)

    unlike : (q : List Part) → (q ≡ prefix → ⊥) → same_path prefix q ≡ false
    unlike q other = by (same_path prefix q) refl
      where
        by : (b : Bool) → same_path prefix q ≡ b → same_path prefix q ≡ false
        by false e = e
        by true e = absurd (other (sym (same_path-sound prefix q e)))

-- ---- the element's lines taken out

regroup : (left prefixes run right : List Mention) (d m : Mention)
    → left ++ ((prefixes ++ d ∷ m ∷ []) ++ (run ++ right)) ≡ left ++ (((prefixes ++ d ∷ []) ++ (m ∷ run)) ++ right)
regroup left prefixes run right d m = simp append_assoc refl

regroup_two : (left prefixes run right : List Mention) (d m : Mention)
    → left ++ (((prefixes ++ d ∷ []) ++ (m ∷ run)) ++ right) ≡ (left ++ prefixes) ++ (d ∷ ((m ∷ run) ++ right))
regroup_two left prefixes run right d m = simp append_assoc refl

-- Of the lines before the element and of those after it, with what they say (`mid`, as it was), the paths go where that
-- function takes them, and so do those of the key parts of headers after it, and of what those say.
pub record IsElementCut (p : List Part) (f : List Part → List Part) (from to : List Mention) (r u : Reading)
    (pre rest : List Line) : Type 0 where
  pub mid : List Mention
  pub mid_is : mid ≡ lines_mentions start pre ++ lines_mentions r rest
  pub cut : IsCut p from mid
  pub is : to ≡ map (moved f) mid
  pub before : Goes (λ q. strip p q ≡ None) f start start pre
  pub behind : Goes (λ q. strip p q ≡ None) f r u rest
  pub says : Says (λ q. strip p q ≡ None) f r u rest
  pub parts : PartsGo (λ q. strip p q ≡ None) f r u rest

pub element_cut : (pre post : List Line) (l : Line) (b : Gap) (k : Key) (a : Gap) → l.content ≡ element b k a
    → (let r : Reading = reading_after_lines start pre in
    let prefix : List Part = header_path r.tables [] (keys_of k) in
    let n : ℕ = elements_of prefix r.tables in
    Rules (lines_mentions start (pre ++ l ∷ post))
    → has is_passed (element_at prefix n) (lines_mentions start (pre ++ l ∷ post)) ≡ false
    → IsElementCut (element_at prefix n) (shifted prefix n) (lines_mentions start (pre ++ l ∷ post))
    (lines_mentions start pre ++ lines_mentions r (drop (body_length post) post)) (after_line r l) r pre
    (drop (body_length post) post))
element_cut pre post l b k a e rules free =
    let r : Reading = reading_after_lines start pre in
    let prefix : List Part = header_path r.tables [] (keys_of k) in
    let n : ℕ = elements_of prefix r.tables in
    let p : List Part = element_at prefix n in
    let ends : EndsInKey prefix = path_ends r.tables [] (key_value k.first) (map further_value k.more) in
    let tables : List (List Part) = r.tables ++ prefix ∷ [] in
    let inner : Reading = record { tables = tables; body = p } in
    let outer : Reading = record { tables = tables; body = [] } in
    let less : Reading = record { tables = r.tables; body = [] } in
    let body = body_is inner post in
    let rest : List Line = drop (body_length post) post in
    let left : List Mention = lines_mentions start pre in
    let prefixes : List Mention = header_prefixes r.tables [] (keys_of k) in
    let top : Mention = record { path = prefix; kind = kinds_element } in
    let m : Mention = record { path = p; kind = begun } in
    let run : List Mention = lines_mentions inner (take (body_length post) post) in
    let right : List Mention = lines_mentions outer rest in
    let post_mentions : lines_mentions inner post ≡ run ++ right =
    ap (lines_mentions inner) (sym (take-append-drop (body_length post) post))
    ∙ lines_mentions-append inner (take (body_length post) post) rest
    ∙ ap (λ (x : Reading). run ++ lines_mentions x rest) body.keeps
    ∙ ap (λ (x : List Mention). run ++ x) (body.further []) in
    let whole : lines_mentions start (pre ++ l ∷ post) ≡ left ++ (((prefixes ++ top ∷ []) ++ (m ∷ run)) ++ right) =
    lines_mentions-append start pre (l ∷ post)
    ∙ ap (λ (c : Content).
    left ++ lines_mentions r (record { before = l.before; content = c; after = l.after; comment = l.comment } ∷ post)) e
    ∙ ap (λ x. left ++ ((prefixes ++ top ∷ m ∷ []) ++ x)) post_mentions
    ∙ regroup left prefixes run right top m in
    let flat : lines_mentions start (pre ++ l ∷ post) ≡ (left ++ prefixes) ++ (top ∷ ((m ∷ run) ++ right)) =
    whole ∙ regroup_two left prefixes run right top m in
    let split = pairs_split Allowed (left ++ prefixes) (top ∷ ((m ∷ run) ++ right)) (subst Rules flat rules) in
    let array_left : AllOf (IsOfArray prefix) left =
    all_left (IsOfArray prefix) left prefixes
    (all_before prefix (left ++ prefixes) ((m ∷ run) ++ right) (subst Rules flat rules)) in
    let array_right : AllOf (IsOfArray prefix) right =
    all_right (IsOfArray prefix) (m ∷ run) right (all_after prefix ((m ∷ run) ++ right) split.right.0) in
    let never : AllOf (NotPassed p) ((left ++ prefixes) ++ (top ∷ ((m ∷ run) ++ right))) =
    none_mentioned is_passed p ((left ++ prefixes) ++ (top ∷ ((m ∷ run) ++ right)))
    (λ s. let yes : has is_passed p (lines_mentions start (pre ++ l ∷ post)) ≡ true = ap (has is_passed p) flat
    ∙ some_has is_passed p ((left ++ prefixes) ++ (top ∷ ((m ∷ run) ++ right))) s in absurd cc) in
    let never_left : AllOf (NotPassed p) left =
    all_left (NotPassed p) left prefixes
    (all_left (NotPassed p) (left ++ prefixes) (top ∷ ((m ∷ run) ++ right)) never) in
    let never_right : AllOf (NotPassed p) right =
    all_right (NotPassed p) (m ∷ run) right
    (all_right (NotPassed p) (left ++ prefixes) (top ∷ ((m ∷ run) ++ right)) never).1 in
    let one =
    lines_shift prefix ends n start start pre (start_shift prefix ends n)
    (all_both (IsOfArray prefix) (NotPassed p) left array_left never_left) (inl (omega arith)) in
    let two =
    lines_shift prefix ends n outer less rest (after_shift prefix ends r.tables one.next.tables)
    (all_both (IsOfArray prefix) (NotPassed p) right array_right never_right)
    (inr (omega (
      arith,
      elements_more prefix prefix r.tables
          ∙ ap (λ (b : Bool). elements_of prefix r.tables + cond b 1 0) (same_path-refl prefix),
    ))) in
    record {
      mid = left ++ right;
      mid_is = ap (λ (ms : List Mention). left ++ ms)
          (sym (body.further [])
          ∙ ap (λ (c : Content).
          lines_mentions
          (after_line r (record { before = l.before; content = c; after = l.after; comment = l.comment })) rest)
          (sym e));
      cut = record {
        before = left;
        ways = prefixes ++ top ∷ [];
        run = m ∷ run;
        after = right;
        was = whole;
        is = refl;
        disjoint_before = one.preserved;
        disjoint_after = two.preserved;
        silent =
            all_join (λ (x : Mention). fact_of x.kind ≡ None) prefixes (top ∷ [])
            (silent_prefixes r.tables [] (keys_of k)) (refl, tt);
        under = (([], ap (strip p) (sym (append-nil p)) ∙ strip-append p []), body.under);
      };
      is = ap (λ x. left ++ x) ((body_is r post).further [] ∙ two.mentioned)
          ∙ ap (λ x. x ++ map (moved (shifted prefix n)) right) one.mentioned
          ∙ sym (map-append (moved (shifted prefix n)) left right);
      before = one.go;
      behind =
          subst (λ (x : Reading). Goes (λ q. strip p q ≡ None) (shifted prefix n) x r rest)
          (sym (ap (λ (c : Content).
          after_line r (record { before = l.before; content = c; after = l.after; comment = l.comment })) e))
          (goes_bodies (λ q. strip p q ≡ None) (shifted prefix n) p r.body outer less rest two.go);
      says =
          subst (λ (x : Reading). Says (λ q. strip p q ≡ None) (shifted prefix n) x r rest)
          (sym (ap (λ (c : Content).
          after_line r (record { before = l.before; content = c; after = l.after; comment = l.comment })) e))
          (says_bodies (λ q. strip p q ≡ None) (shifted prefix n) p r.body outer less rest two.says);
      parts =
          subst (λ (x : Reading). PartsGo (λ q. strip p q ≡ None) (shifted prefix n) x r rest)
          (sym (ap (λ (c : Content).
          after_line r (record { before = l.before; content = c; after = l.after; comment = l.comment })) e))
          (parts_bodies (λ q. strip p q ≡ None) (shifted prefix n) p r.body outer less rest two.parts);
    }

-- ---- in the document

-- the line that begins the element of the path
pub record IsElementLine (r : Reading) (path : List Part) (c : Content) : Type 0 where
  pub before : Gap
  pub keys : Key
  pub after : Gap
  pub was : c ≡ element before keys after
  pub place : element_at (header_path r.tables [] (keys_of keys))
      (elements_of (header_path r.tables [] (keys_of keys)) r.tables) ≡ path

pub begins_element : (path : List Part) (r : Reading) (before after : Gap) (comment : Option Written) (c : Content)
    → (EndsInKey path → ⊥)
    → begins path r (record { before = before; content = c; after = after; comment = comment }) ≡ true
    → IsElementLine r path c
begins_element path r before after comment blank other e = absurd cc
begins_element path r before after comment (keyval name v) other e = absurd cc
begins_element path r before after comment (header b k a) other e =
    absurd (other (subst EndsInKey (same_path-sound (header_path r.tables [] (keys_of k)) path e)
    (path_ends r.tables [] (key_value k.first) (map further_value k.more))))
begins_element path r before after comment (element b k a) other e =
    record { before = b; keys = k; after = a; was = refl; place = same_path-sound _ path e }

element_by : (s : Document) (path : List Part) → Rules (mentions_in s)
    → SomeOf (IsMentioned is_begun path) (mentions_in s) → has is_passed path (mentions_in s) ≡ false → (o : Option ℕ)
    → IsFound (begins path) start (lines s) o
    → EachTo (IsLawful s (remove path))
    (elim o [ None ↦ None | Some i ↦ without_lines s i (suc (body_length (drop (suc i) (lines s)))) ])
element_by s path rules begins_there free None h = tt
element_by s path rules begins_there free (Some i) h =
    let r : Reading = reading_after_lines start h.pre in
    let c = begins_element path r h.line.before h.line.after h.line.comment h.line.content
    (λ ends. never_begun path (mentions_in s) (lines_begun path ends start (lines s)) begins_there) h.passes in
    let prefix : List Part = header_path r.tables [] (keys_of c.keys) in
    let n : ℕ = elements_of prefix r.tables in
    let from : List Mention = lines_mentions start (h.pre ++ h.line ∷ h.post) in
    let to : List Mention =
    lines_mentions start (page_lines (drop_lines i (suc (body_length (drop (suc i) (lines s)))) s.ended s.last).to) in
    let post_is : drop (suc i) (lines s) ≡ h.post =
    ap (drop (suc i)) h.was ∙ ap (λ (m : ℕ). drop (suc m) (h.pre ++ h.line ∷ h.post)) (sym h.number)
    ∙ drop_next h.pre h.post h.line in
    let is : to ≡ lines_mentions start h.pre ++ lines_mentions r (drop (body_length h.post) h.post) =
    without_mentions s (begins path) i (suc (body_length (drop (suc i) (lines s)))) h
    ∙ ap (λ (x : List Line). lines_mentions start h.pre ++ lines_mentions r (drop (body_length x) h.post)) post_is in
    let rules' : Rules from = subst (λ (x : List Line). Rules (lines_mentions start x)) h.was rules in
    let free' : has is_passed (element_at prefix n) from ≡ false =
    subst (λ (q : List Part). has is_passed q from ≡ false) (sym c.place)
    (subst (λ (x : List Line). has is_passed path (lines_mentions start x) ≡ false) h.was free) in
    let cut = element_cut h.pre h.post h.line c.before c.keys c.after c.was rules' free' in
    let law : IsRemoval (element_at prefix n) from to =
    element_removal prefix n from cut.mid to cut.cut (is ∙ cut.is) rules' in
    record {
      rules = law.rules;
      tree = subst (λ (x : List Line). IsTreeOf (lines_mentions start x) (remove path) to) (sym h.was)
          (subst (λ (q : List Part). IsTreeOf from (remove q) to) c.place law.tree);
    }

-- An element dropped, where no header goes past it: the rules are kept, and the tree is changed as stated.
pub element_dropped : (s : Document) (path : List Part) → Rules (mentions_in s)
    → SomeOf (IsMentioned is_begun path) (mentions_in s) → has is_passed path (mentions_in s) ≡ false
    → EachTo (IsLawful s (remove path))
    (elim (last_line (begins path) start (lines s)) [
      | None ↦ None
      | Some i ↦
          without_lines s i (suc (body_length (drop (suc i) (lines s))))
    ])
element_dropped s path rules begins_there free =
    element_by s path rules begins_there free (last_line (begins path) start (lines s))
    (found (begins path) start (lines s))
