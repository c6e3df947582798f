-- `remove` of a keyval's line, with its comment kept or without: the rules and the tree.
--
-- Both ways leave the same mentions: those of the lines before and of the lines after, since a blank line has none
-- (`blank_mentions`) and a keyval does not change where the reading is. So both come down to `line_law`: the mentions
-- of one keyval are cut out, and by the rules nothing else is at its path or under it (`line_cut`). Which line it is:
-- for clearing, the line that the search meets (`lines_cleared`); for dropping, the last line that passes the test
-- (`found`, by induction). `dropped_mentions` says what is left when lines are dropped from a number on.
--
-- Theorems: `line_cleared` and `line_dropped`: the rules and the tree after each; `without_mentions`: what dropped
-- lines leave.
use Rattle.std.proofs.Common.{◌≡◌, ℕ, zero, suc, ◌≤◌, Bool, true, false, cond, List, [], ◌∷◌, ◌++◌, length, map, take}
use Rattle.std.proofs.Common.{drop, refl, sym, ap, subst, ◌∙◌, length-append, arith, Option, Some, None}
use Rattle.std.specs.Prelude.{⊤}
use Rattle.std.proofs.lemmas.List.{map-append, length-map}
use Rattle.keep_syntax.specs.Tree.{Written, Gap, Name, Value, Content, blank, keyval, header, element, Line, Ended}
use Rattle.keep_syntax.specs.Tree.{Document, ended_leaves, text_of}
use Rattle.keep_path.specs.Path.{Part, key}
use Rattle.keep_meaning.specs.Marks.{value, Mention, below, Reading, start}
use Rattle.keep_meaning.specs.Meaning.{key_value, further_value, keys_of, body_fact, valued_mentions, keyed_mentions}
use Rattle.keep_meaning.specs.Meaning.{entries_mentions, step, keyval_mentions, line_mentions, after_line}
use Rattle.keep_meaning.specs.Meaning.{lines_mentions, reading_after_lines, line_of, lines, mentions_in}
use Rattle.keep_edit_spec.specs.Changed.{Changed}
use Rattle.keep_edit_spec.specs.Lines.{page_text, with_page, in_document, in_lines, drop_prefix, drop_lines, last_line}
use Rattle.keep_edit_spec.specs.Trees.{IsTreeOf}
use Rattle.keep_edit_spec.specs.Edits.{remove, is_own, clear_line, without_lines}
use Rattle.keep_edit_spec.proofs.Common.Runs.{Rules, same_path-sound}
use Rattle.keep_edit_spec.proofs.Common.SetLaw.{EachTo, to_within, to_or_else, keyed_split, map_twice}
use Rattle.keep_edit_spec.proofs.Common.LineLaws.{EndsInKey, lines_mentions-append}
use Rattle.keep_edit_spec.proofs.Common.SetDocument.{IsLawful, page_lines, whole_mentions, ends_keys, under_below}
use Rattle.keep_edit_spec.proofs.Common.InsertLaw.{dots_none, none_below}
use Rattle.keep_edit_spec.proofs.Common.InValue.{beside_keyval}
use Rattle.keep_edit_spec.proofs.Common.Cuts.{IsCut, rules_cut, tree_cut}

-- ---- a keyval's line gone

-- the line is the keyval of the path
pub record IsOwnLine (body path : List Part) (c : Content) : Type 0 where
  pub name : Name
  pub held : Value
  pub was : c ≡ keyval name held
  pub place : body ++ step 0 (Some name) ≡ path

pub own_line : (path : List Part) (r : Reading) (c : Content) → is_own path r c ≡ true → IsOwnLine r.body path c
own_line path r blank e = absurd cc
own_line path r (keyval name v) e =
    record { name = name; held = v; was = refl; place = same_path-sound (r.body ++ step 0 (Some name)) path e }
own_line path r (header b k a) e = absurd cc
own_line path r (element b k a) e = absurd cc

pub keyval_run : (body : List Part) (name : Name) (v : Value)
    → map (below body) (keyval_mentions name v)
    ≡ map (below body) (keyed_mentions (keys_of name.key) [])
    ++ map (below (body ++ step 0 (Some name)))
    (valued_mentions (value (body_fact v.body)) (entries_mentions 0 v.nested))
keyval_run body name v =
    let vs : List Mention = valued_mentions (value (body_fact v.body)) (entries_mentions 0 v.nested) in
    ap (map (below body)) (keyed_split (keys_of name.key) vs)
    ∙ map-append (below body) (keyed_mentions (keys_of name.key) []) (map (below (map key (keys_of name.key))) vs)
    ∙ ap (λ l. map (below body) (keyed_mentions (keys_of name.key) []) ++ l)
    (map_twice body (map key (keys_of name.key)) vs)

pub line_cut : (pre post : List Line) (l : Line) (name : Name) (v : Value) → l.content ≡ keyval name v
    → Rules (lines_mentions start (pre ++ l ∷ post))
    → IsCut ((reading_after_lines start pre).body ++ step 0 (Some name)) (lines_mentions start (pre ++ l ∷ post))
    (lines_mentions start pre ++ lines_mentions (reading_after_lines start pre) post)
line_cut pre post l name v e rules =
    let r : Reading = reading_after_lines start pre in
    let p : List Part = r.body ++ step 0 (Some name) in
    let left : List Mention = lines_mentions start pre in
    let right : List Mention = lines_mentions r post in
    let mid : List Mention = map (below r.body) (keyval_mentions name v) in
    let whole : lines_mentions start (pre ++ l ∷ post) ≡ left ++ (mid ++ right) = whole_mentions pre post l name v e in
    let b = beside_keyval pre post name v (subst Rules whole rules) in
    let vs : List Mention = valued_mentions (value (body_fact v.body)) (entries_mentions 0 v.nested) in
    record {
      before = left;
      ways = map (below r.body) (keyed_mentions (keys_of name.key) []);
      run = map (below p) vs;
      after = right;
      was = whole ∙ ap (λ l. left ++ (l ++ right)) (keyval_run r.body name v);
      is = refl;
      disjoint_before = b.before;
      disjoint_after = b.after;
      silent = none_below r.body (keyed_mentions (keys_of name.key) []) (dots_none (keys_of name.key));
      under = under_below p vs;
    }

pub record IsRemoval (path : List Part) (from to : List Mention) : Type 0 where
  pub rules : Rules to
  pub tree : IsTreeOf from (remove path) to

line_law : (path : List Part) (pre post : List Line) (l : Line) (to : List Mention)
    → IsOwnLine (reading_after_lines start pre).body path l.content → Rules (lines_mentions start (pre ++ l ∷ post))
    → to ≡ lines_mentions start pre ++ lines_mentions (reading_after_lines start pre) post
    → IsRemoval path (lines_mentions start (pre ++ l ∷ post)) to
line_law path pre post l to own rules e =
    let r : Reading = reading_after_lines start pre in
    let p : List Part = r.body ++ step 0 (Some own.name) in
    let from : List Mention = lines_mentions start (pre ++ l ∷ post) in
    let c : IsCut p from to =
    subst (λ (x : List Mention). IsCut p from x) (sym e) (line_cut pre post l own.name own.held own.was rules) in
    let ends : EndsInKey p = ends_keys r.body (key_value own.name.key.first) (map further_value own.name.key.more) in
    record {
      rules = rules_cut p from to c rules;
      tree = subst (λ (q : List Part). IsTreeOf from (remove q) to) own.place (tree_cut p from to ends c);
    }

-- ---- the line is cleared, but for its comment

pub record LinesCleared (r : Reading) (path : List Part) (from to : List Line) : Type 0 where
  pub pre : List Line
  pub post : List Line
  pub old : Line
  pub now : Line
  pub was : from ≡ pre ++ old ∷ post
  pub is : to ≡ pre ++ now ∷ post
  pub own : IsOwnLine (reading_after_lines r pre).body path old.content
  pub clear : now.content ≡ blank

pub record IsCleared (r : Reading) (path : List Part) (old now : Line) : Type 0 where
  pub own : IsOwnLine r.body path old.content
  pub clear : now.content ≡ blank

clear_own : (P : Line → Type 0) (b : Bool) (c : Changed Line) → (b ≡ true → P c.to)
    → EachTo P (elim b [ false ↦ None | true ↦ Some c ])
clear_own P true c h = h refl
clear_own P false c h = tt

cleared_by : (path : List Part) (r : Reading) (before : Gap) (content : Content) (after : Gap)
    (comment : Option Written)
    → (let l : Line = record { before = before; content = content; after = after; comment = comment } in
    EachTo (IsCleared r path l) (clear_line path r l))
cleared_by path r before content after None = tt
cleared_by path r before content after (Some w) =
    clear_own (IsCleared r path (record { before = before; content = content; after = after; comment = Some w }))
    (is_own path r content) _
    (λ e. record { own = own_line path r content e; clear = refl })

cleared : (path : List Part) (r : Reading) (l : Line) → EachTo (IsCleared r path l) (clear_line path r l)
cleared path r l = cleared_by path r l.before l.content l.after l.comment

pub lines_cleared : (path : List Part) (r : Reading) (es : List Ended) (last : Line)
    → EachTo (λ p. LinesCleared r path (map line_of es ++ last ∷ []) (page_lines p))
    (in_lines (clear_line path) r es last)
lines_cleared path r [] last =
    to_within (IsCleared r path last) (λ p. LinesCleared r path (last ∷ []) (page_lines p))
    (λ l. record { ended = []; last = l }) [] [] (clear_line path r last)
    (λ l h. record { pre = []; post = []; old = last; now = l; was = refl; is = refl; own = h.own; clear = h.clear })
    (cleared path r last)
lines_cleared path r (e ∷ es) last =
    to_or_else (λ p. LinesCleared r path (map line_of (e ∷ es) ++ last ∷ []) (page_lines p)) _ _
    (to_within (IsCleared r path e.line) (λ p. LinesCleared r path (map line_of (e ∷ es) ++ last ∷ []) (page_lines p))
    (λ l. record { ended = record { line = l; newline = e.newline } ∷ es; last = last }) []
    (e.newline.text ++ page_text (record { ended = es; last = last })) (clear_line path r e.line)
    (λ l h. record {
      pre = [];
      post = map line_of es ++ last ∷ [];
      old = e.line;
      now = l;
      was = refl;
      is = refl;
      own = h.own;
      clear = h.clear;
    }) (cleared path r e.line))
    (to_within (λ p. LinesCleared (after_line r e.line) path (map line_of es ++ last ∷ []) (page_lines p))
    (λ p. LinesCleared r path (map line_of (e ∷ es) ++ last ∷ []) (page_lines p))
    (λ b. record { ended = e ∷ b.ended; last = b.last }) (text_of (ended_leaves e)) []
    (in_lines (clear_line path) (after_line r e.line) es last)
    (λ p h. record {
      pre = e.line ∷ h.pre;
      post = h.post;
      old = h.old;
      now = h.now;
      was = ap (λ l. e.line ∷ l) h.was;
      is = ap (λ l. e.line ∷ l) h.is;
      own = h.own;
      clear = h.clear;
    })
    (lines_cleared path (after_line r e.line) es last))

blank_mentions : (r : Reading) (l : Line) (post : List Line) → l.content ≡ blank
    → lines_mentions r (l ∷ post) ≡ lines_mentions r post
blank_mentions r l post e =
    ap (λ (c : Content).
    lines_mentions r (record { before = l.before; content = c; after = l.after; comment = l.comment } ∷ post)) e

-- A keyval's line cleared: the rules are kept, and the tree is changed as stated.
pub line_cleared : (s : Document) (path : List Part) → Rules (mentions_in s)
    → EachTo (IsLawful s (remove path)) (in_document s (in_lines (clear_line path) start s.ended s.last))
line_cleared s path rules =
    to_within (λ p. LinesCleared start path (lines s) (page_lines p)) (IsLawful s (remove path)) (with_page s) _ []
    (in_lines (clear_line path) start s.ended s.last)
    (λ p h.
    let r : Reading = reading_after_lines start h.pre in
    let to : lines_mentions start (page_lines p) ≡ lines_mentions start h.pre ++ lines_mentions r h.post =
    ap (lines_mentions start) h.is ∙ lines_mentions-append start h.pre (h.now ∷ h.post)
    ∙ ap (λ l. lines_mentions start h.pre ++ l) (blank_mentions r h.now h.post h.clear) in
    let law : IsRemoval path (lines_mentions start (h.pre ++ h.old ∷ h.post)) (lines_mentions start (page_lines p)) =
    line_law path h.pre h.post h.old (lines_mentions start (page_lines p)) h.own
    (subst (λ (x : List Line). Rules (lines_mentions start x)) h.was rules) to in
    record {
      rules = law.rules;
      tree = subst (λ (x : List Line).
          IsTreeOf (lines_mentions start x) (remove path) (lines_mentions start (page_lines p))) (sym h.was) law.tree;
    })
    (lines_cleared path start s.ended s.last)

-- ---- lines dropped

drop_none : (m : ℕ) → drop {A = Line} m [] ≡ []
drop_none zero = refl
drop_none (suc m) = refl

prefix_mentions : (r : Reading) (n : ℕ) (es : List Ended) (last : Line)
    → lines_mentions r (page_lines (drop_prefix n es last).to) ≡ lines_mentions r (drop n (map line_of es ++ last ∷ []))
prefix_mentions r zero [] last = refl
prefix_mentions r (suc m) [] last = ap (lines_mentions r) (sym (drop_none m))
prefix_mentions r zero (e ∷ es) last = refl
prefix_mentions r (suc m) (e ∷ es) last = prefix_mentions r m es last

dropped_mentions : (r : Reading) (i n : ℕ) (es : List Ended) (last : Line) → i ≤ length es
    → lines_mentions r (page_lines (drop_lines i n es last).to)
    ≡ lines_mentions r (take i (map line_of es ++ last ∷ []) ++ drop n (drop i (map line_of es ++ last ∷ [])))
dropped_mentions r zero n [] last h = prefix_mentions r n [] last
dropped_mentions r (suc i) n [] last h = absurd (let k : suc i ≤ 0 = h in omega arith)
dropped_mentions r zero n (e ∷ es) last h = prefix_mentions r n (e ∷ es) last
dropped_mentions r (suc i) n (e ∷ es) last h =
    ap (λ l. line_mentions r e.line ++ l)
    (dropped_mentions (after_line r e.line) i n es last (let k : suc i ≤ suc (length es) = h in omega arith))

pub take_prefix : (a b : List Line) → take (length a) (a ++ b) ≡ a
take_prefix [] b = refl
take_prefix (x ∷ a) b = ap (λ l. x ∷ l) (take_prefix a b)

pub drop_prefix_of : (a b : List Line) → drop (length a) (a ++ b) ≡ b
drop_prefix_of [] b = refl
drop_prefix_of (x ∷ a) b = drop_prefix_of a b

pub drop_next : (a b : List Line) (l : Line) → drop (suc (length a)) (a ++ l ∷ b) ≡ b
drop_next [] b l = refl
drop_next (x ∷ a) b l = drop_next a b l

-- the last line that passes
pub record IsLastLine (test : Reading → Line → Bool) (r : Reading) (ls : List Line) (n : ℕ) : Type 0 where
  pub pre : List Line
  pub line : Line
  pub post : List Line
  pub was : ls ≡ pre ++ line ∷ post
  pub number : length pre ≡ n
  pub passes : test (reading_after_lines r pre) line ≡ true

abbrev pub IsFound : (Reading → Line → Bool) → Reading → List Line → Option ℕ → Type 0
IsFound test r ls None = ⊤
IsFound test r ls (Some n) = IsLastLine test r ls n

found_step : (test : Reading → Line → Bool) (r : Reading) (l : Line) (ls : List Line) (o : Option ℕ) (b : Bool)
    → test r l ≡ b → IsFound test (after_line r l) ls o
    → IsFound test r (l ∷ ls) (elim o [ Some n ↦ Some (suc n) | None ↦ cond b (Some zero) None ])
found_step test r l ls (Some n) b e h =
    record {
      pre = l ∷ h.pre;
      line = h.line;
      post = h.post;
      was = ap (λ x. l ∷ x) h.was;
      number = ap suc h.number;
      passes = h.passes;
    }
found_step test r l ls None true e h = record { pre = []; line = l; post = ls; was = refl; number = refl; passes = e }
found_step test r l ls None false e h = tt

pub found : (test : Reading → Line → Bool) (r : Reading) (ls : List Line) → IsFound test r ls (last_line test r ls)
found test r [] = tt
found test r (l ∷ ls) =
    found_step test r l ls (last_line test (after_line r l) ls) (test r l) refl (found test (after_line r l) ls)

-- what is said when lines from that one on are gone
pub without_mentions : (s : Document) (test : Reading → Line → Bool) (i n : ℕ) → (h : IsLastLine test start (lines s) i)
    → lines_mentions start (page_lines (drop_lines i n s.ended s.last).to) ≡ lines_mentions start h.pre
    ++ lines_mentions (reading_after_lines start h.pre) (drop n (h.line ∷ h.post))
without_mentions s test i n h =
    let few : i ≤ length s.ended =
    omega (
      arith,
      sym h.number,
      ap length h.was,
      length-append (map line_of s.ended) (s.last ∷ []),
      length-map s.ended line_of,
      length-append h.pre (h.line ∷ h.post),
    ) in
    dropped_mentions start i n s.ended s.last few
    ∙ ap (λ (x : List Line). lines_mentions start (take i x ++ drop n (drop i x))) h.was
    ∙ ap (λ (k : ℕ).
    lines_mentions start (take k (h.pre ++ h.line ∷ h.post) ++ drop n (drop k (h.pre ++ h.line ∷ h.post))))
    (sym h.number)
    ∙ ap (λ (x : List Line). lines_mentions start (x ++ drop n (drop (length h.pre) (h.pre ++ h.line ∷ h.post))))
    (take_prefix h.pre (h.line ∷ h.post))
    ∙ ap (λ (x : List Line). lines_mentions start (h.pre ++ drop n x)) (drop_prefix_of h.pre (h.line ∷ h.post))
    ∙ lines_mentions-append start h.pre (drop n (h.line ∷ h.post))

-- A keyval's line dropped: the rules are kept, and the tree is changed as stated.
line_dropped-by : (s : Document) (path : List Part) → Rules (mentions_in s) → (o : Option ℕ)
    → IsFound (λ r l. is_own path r l.content) start (lines s) o
    → EachTo (IsLawful s (remove path)) (elim o [ None ↦ None | Some i ↦ without_lines s i 1 ])
line_dropped-by s path rules None h = tt
line_dropped-by s path rules (Some i) h =
    let r : Reading = reading_after_lines start h.pre in
    let to : List Mention = lines_mentions start (page_lines (drop_lines i 1 s.ended s.last).to) in
    let law : IsRemoval path (lines_mentions start (h.pre ++ h.line ∷ h.post)) to =
    line_law path h.pre h.post h.line to (own_line path r h.line.content h.passes)
    (subst (λ (x : List Line). Rules (lines_mentions start x)) h.was rules)
    (without_mentions s (λ r l. is_own path r l.content) i 1 h) in
    record {
      rules = law.rules;
      tree = subst (λ (x : List Line). IsTreeOf (lines_mentions start x) (remove path) to) (sym h.was) law.tree;
    }

pub line_dropped : (s : Document) (path : List Part) → Rules (mentions_in s)
    → EachTo (IsLawful s (remove path))
    (elim (last_line (λ r l. is_own path r l.content) start (lines s)) [ None ↦ None | Some i ↦ without_lines s i 1 ])
line_dropped s path rules =
    line_dropped-by s path rules (last_line (λ r l. is_own path r l.content) start (lines s))
    (found (λ r l. is_own path r l.content) start (lines s))
