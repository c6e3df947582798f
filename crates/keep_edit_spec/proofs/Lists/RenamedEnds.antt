-- Where bodies end after a rename: at the same lines, but for the bodies at or below the path.
--
-- A header's line is known by what it says: its last mention, and no other, begins a body (`headed`). The new document
-- says the same line by line, with the paths changed. So a header comes where one was, and begins the body of a path
-- that stays where it did (`heads_stay`), and it goes through such a path where it did (`through_stays`). So the last
-- line of these is the same (`last_stays`). The lines between are of the same kinds, so bodies are as long as they were
-- (`lengths_stay`).
--
-- Theorems: `end_renamed`, `begins_renamed`, `through_renamed`; `bodies_renamed`: of each header by its number;
-- `headed`, `silent_starts`: what a header's line says.
use Rattle.std.proofs.Common.{◌≡◌, ℕ, zero, suc, ◌+◌, Bool, true, false, ◌&&◌, ◌||◌, List, [], ◌∷◌, ◌++◌, map, drop}
use Rattle.std.proofs.Common.{refl, sym, ap, ap₂, subst, ◌∙◌, Some, None}
use Rattle.std.specs.List.{list_any}
use Rattle.std.specs.Option.{is_some}
use Rattle.std.proofs.lemmas.List.{append-nil}
use Rattle.std.proofs.Math.Bool.{and-true, or-false}
use Rattle.keep_syntax.specs.Tree.{Content, blank, keyval, header, element, Line, Document}
use Rattle.keep_path.specs.Path.{Part, index, moved_path, same_path, strip}
use Rattle.keep_meaning.specs.Marks.{Mention, MentionKind, Reading, start, below, define, begun, elements_of, fact_of}
use Rattle.keep_meaning.specs.Marks.{header_path, header_prefixes}
use Rattle.keep_meaning.specs.Marks as marks_of
use Rattle.keep_meaning.specs.Meaning.{after_line, keys_of, keyval_mentions, line_mentions, lines, lines_mentions}
use Rattle.keep_meaning.specs.Meaning.{mentions_in, statement_of}
use Rattle.keep_meaning.specs.Nodes.{has, is_begun, is_define, is_through, kinds_at}
use Rattle.keep_edit_spec.specs.Edits.{end_of}
use Rattle.keep_edit_spec.specs.Lines.{begins, body_end, body_length, is_header, last_line, leads_through, more_lines}
use Rattle.keep_edit_spec.proofs.Common.Moves.{mentions_moved, moved}
use Rattle.keep_edit_spec.proofs.Common.Runs.{AllOf, IsDisjoint, all_left, all_map, all_right}
use Rattle.keep_edit_spec.proofs.Lists.BodyEnds.{end_cons, end_in, end_or, length_after}
use Rattle.keep_edit_spec.proofs.Lists.RemovedOwn.{last_or}
use Rattle.keep_edit_spec.proofs.Lists.RenamePlaces.{same_moved}
use Rattle.keep_edit_spec.proofs.Remove.KeyvalMentions.{mentioned_below, mentions_keyval}
use Rattle.keep_edit_spec.proofs.Remove.RemoveSection.{silent_prefixes}
use Rattle.keep_edit_spec.proofs.Rename.MovedLines.{AreLinesMoved, IsLineMoved}
use Rattle.keep_edit_spec.proofs.Rename.RenameContent.{content_after, content_mentions}
use Rattle.keep_edit_spec.proofs.Rename.RenameMoves.{IsMovedTo}
use Rattle.keep_edit_spec.proofs.Rename.RenamedPath.{disjoint_renamed, renamed_injective}

-- ---- a header, by what it says

-- the mention is of a path whose body begins
abbrev pub starts : MentionKind → Bool
starts k = is_define k || is_begun k

abbrev pub heads : (List Part → Bool) → Mention → Bool
heads test m = starts m.kind && test m.path

none_heads : (test : List Part → Bool) (ms more : List Mention) → AllOf (λ (m : Mention). starts m.kind ≡ false) ms
    → list_any (heads test) (ms ++ more) ≡ list_any (heads test) more
none_heads test [] more h = refl
none_heads test (m ∷ ms) more h =
    ap (λ (b : Bool). (b && test m.path) || list_any (heads test) (ms ++ more)) h.0 ∙ none_heads test ms more h.1

pub silent_starts : (k : MentionKind) → fact_of k ≡ None → starts k ≡ false
silent_starts define h = absurd cc
silent_starts begun h = absurd cc
silent_starts _ h = refl

way_starts : (r : Reading) (keys : List (List ℕ))
    → AllOf (λ (m : Mention). starts m.kind ≡ false) (header_prefixes r.tables [] keys)
way_starts r keys =
    all_map (λ (m : Mention). fact_of m.kind ≡ None) (λ (m : Mention). starts m.kind ≡ false)
    (λ m h. silent_starts m.kind h) (header_prefixes r.tables [] keys) (silent_prefixes r.tables [] keys)

pub headed : (test : List Part → Bool) (r : Reading) (c : Content)
    → (is_header c && test (content_after r c).body) ≡ list_any (heads test) (content_mentions r c)
headed test r blank = refl
headed test r (keyval name v) =
    let ms : List Mention = map (below r.body) (keyval_mentions name v) in
    sym (ap (list_any (heads test)) (sym (append-nil ms))
    ∙ none_heads test ms [] (mentioned_below (λ (k : MentionKind). starts k ≡ false) r.body (keyval_mentions name v)
    (mentions_keyval (λ (k : MentionKind). starts k ≡ false)
    (record { dot = refl; held = λ f. refl; unnamed = λ f. refl }) name v)))
headed test r (header x k y) =
    let path : List Part = header_path r.tables [] (keys_of k) in
    sym (none_heads test (header_prefixes r.tables [] (keys_of k)) (record { path = path; kind = define } ∷ [])
    (way_starts r (keys_of k)) ∙ or-false (test path))
headed test r (element x k y) =
    let path : List Part = header_path r.tables [] (keys_of k) in
    let body : List Part = path ++ index (elements_of path r.tables) ∷ [] in
    sym (none_heads test (header_prefixes r.tables [] (keys_of k))
    (record { path = path; kind = marks_of.element } ∷ record { path = body; kind = begun } ∷ [])
    (way_starts r (keys_of k)) ∙ or-false (test body))

-- the kind of a line, as far as a body's length asks it
abbrev length_by : Bool → Bool → ℕ → ℕ
length_by stated true n = 0
length_by stated false n = more_lines stated n

length_is : (c : Content) (n : ℕ) → length_after c n ≡ length_by (is_some (statement_of c)) (is_header c) n
length_is blank n = refl
length_is (keyval name v) n = refl
length_is (header x k y) n = refl
length_is (element x k y) n = refl

-- ---- lines that say the same with the paths changed

module _ (p b : List Part) where
  abbrev Keeps : (List Part → Bool) → Type 0
  Keeps test = (q : List Part) → strip b q ≡ None → test (moved_path p b q) ≡ test q

  any_moved : (test : List Part → Bool) → Keeps test → (ms : List Mention) → AllOf (IsDisjoint b) ms
      → list_any (heads test) (map (moved (moved_path p b)) ms) ≡ list_any (heads test) ms
  any_moved test keeps [] h = refl
  any_moved test keeps (m ∷ ms) h =
      ap₂ (λ (c d : Bool). (starts m.kind && c) || d) (keeps m.path h.0) (any_moved test keeps ms h.1)

  module _ (r r' : Reading) (l l' : Line) (m : IsLineMoved (moved_path p b) r r' l l')
      (clear : AllOf (IsDisjoint b) (line_mentions r l)) where
    heads_stay : (test : List Part → Bool) → Keeps test
        → (is_header l'.content && test (after_line r' l').body) ≡ (is_header l.content && test (after_line r l).body)
    heads_stay test keeps =
        headed test r' l'.content ∙ ap (list_any (heads test)) m.mentioned
        ∙ any_moved test keeps (line_mentions r l) clear ∙ sym (headed test r l.content)

    header_stays : is_header l'.content ≡ is_header l.content
    header_stays =
        sym (and-true (is_header l'.content)) ∙ heads_stay (λ q. true) (λ q e. refl) ∙ and-true (is_header l.content)

    length_stays : (n : ℕ) → length_after l'.content n ≡ length_after l.content n
    length_stays n =
        length_is l'.content n ∙ ap₂ (λ (x y : Bool). length_by x y n) m.stated header_stays
        ∙ sym (length_is l.content n)

  lengths_stay : (r r' : Reading) (ls ls' : List Line) → AreLinesMoved (moved_path p b) r r' ls ls'
      → AllOf (IsDisjoint b) (lines_mentions r ls) → body_length ls' ≡ body_length ls
  lengths_stay r r' [] [] h clear = refl
  lengths_stay r r' [] (l' ∷ ls') h clear = absurd h
  lengths_stay r r' (l ∷ ls) [] h clear = absurd h
  lengths_stay r r' (l ∷ ls) (l' ∷ ls') h clear =
      let rest : List Mention = lines_mentions (after_line r l) ls in
      length_stays r r' l l' h.0 (all_left (IsDisjoint b) (line_mentions r l) rest clear) (body_length ls')
      ∙ ap (length_after l.content)
      (lengths_stay (after_line r l) (after_line r' l') ls ls' h.1
      (all_right (IsDisjoint b) (line_mentions r l) rest clear))

  -- behind the first lines
  lengths_behind : (i : ℕ) (r r' : Reading) (ls ls' : List Line) → AreLinesMoved (moved_path p b) r r' ls ls'
      → AllOf (IsDisjoint b) (lines_mentions r ls) → body_length (drop i ls') ≡ body_length (drop i ls)
  lengths_behind i r r' [] [] h clear = refl
  lengths_behind i r r' [] (l' ∷ ls') h clear = absurd h
  lengths_behind i r r' (l ∷ ls) [] h clear = absurd h
  lengths_behind zero r r' (l ∷ ls) (l' ∷ ls') h clear = lengths_stay r r' (l ∷ ls) (l' ∷ ls') h clear
  lengths_behind (suc i) r r' (l ∷ ls) (l' ∷ ls') h clear =
      lengths_behind i (after_line r l) (after_line r' l') ls ls' h.1
      (all_right (IsDisjoint b) (line_mentions r l) (lines_mentions (after_line r l) ls) clear)

  -- the last line that passes a test, where each line passes as it did
  last_stays : (test : Reading → Line → Bool)
      → ((r r' : Reading) (l l' : Line) → IsLineMoved (moved_path p b) r r' l l'
      → AllOf (IsDisjoint b) (line_mentions r l) → test r' l' ≡ test r l)
      → (r r' : Reading) (ls ls' : List Line) → AreLinesMoved (moved_path p b) r r' ls ls'
      → AllOf (IsDisjoint b) (lines_mentions r ls) → last_line test r' ls' ≡ last_line test r ls
  last_stays test same r r' [] [] h clear = refl
  last_stays test same r r' [] (l' ∷ ls') h clear = absurd h
  last_stays test same r r' (l ∷ ls) [] h clear = absurd h
  last_stays test same r r' (l ∷ ls) (l' ∷ ls') h clear =
      let rest : List Mention = lines_mentions (after_line r l) ls in
      ap₂ last_or (same r r' l l' h.0 (all_left (IsDisjoint b) (line_mentions r l) rest clear))
      (last_stays test same (after_line r l) (after_line r' l') ls ls' h.1
      (all_right (IsDisjoint b) (line_mentions r l) rest clear))

  module _ (a : List Part) (keeps : Keeps (λ q. same_path q a)) where
    ends_stay : (r r' : Reading) (ls ls' : List Line) → AreLinesMoved (moved_path p b) r r' ls ls'
        → AllOf (IsDisjoint b) (lines_mentions r ls) → end_in a r' ls' ≡ end_in a r ls
    ends_stay r r' [] [] h clear = refl
    ends_stay r r' [] (l' ∷ ls') h clear = absurd h
    ends_stay r r' (l ∷ ls) [] h clear = absurd h
    ends_stay r r' (l ∷ ls) (l' ∷ ls') h clear =
        let rest : List Mention = lines_mentions (after_line r l) ls in
        let first = all_left (IsDisjoint b) (line_mentions r l) rest clear in
        let later = all_right (IsDisjoint b) (line_mentions r l) rest clear in
        end_cons a r' l' ls'
        ∙ ap₂ (λ (c : Bool) (n : ℕ). end_or c n (end_in a (after_line r' l') ls'))
        (heads_stay r r' l l' h.0 first (λ q. same_path q a) keeps)
        (lengths_stay (after_line r l) (after_line r' l') ls ls' h.1 later)
        ∙ ap (end_or (begins a r l) (body_length ls))
        (ends_stay (after_line r l) (after_line r' l') ls ls' h.1 later)
        ∙ sym (end_cons a r l ls)

-- of a path that stays
module _ (p b : List Part) (s s' : Document) (a : List Part) (h : IsMovedTo p b s s')
    (clear : AllOf (IsDisjoint b) (mentions_in s)) (apart : strip p a ≡ None) (fresh : strip b a ≡ None) where
  keeps_path : Keeps p b (λ q. same_path q a)
  keeps_path =
      same_moved (moved_path p b) (λ q. strip b q ≡ None) (renamed_injective p b) a a fresh
      (disjoint_renamed p b a apart)

  pub end_renamed : end_of s' a ≡ end_of s a
  end_renamed = by a refl
    where
      by : (q : List Part) → a ≡ q → end_of s' q ≡ end_of s q
      by [] e = ap (λ (n : ℕ). Some n) (lengths_stay p b start start (lines s) (lines s') h clear)
      by (x ∷ xs) e =
          subst (λ (q : List Part). end_in q start (lines s') ≡ end_in q start (lines s)) e
          (ends_stay p b a keeps_path start start (lines s) (lines s') h clear)

  -- the last line that begins its body
  pub begins_renamed : last_line (begins a) start (lines s') ≡ last_line (begins a) start (lines s)
  begins_renamed =
      last_stays p b (begins a)
      (λ r r' l l' m apart. heads_stay p b r r' l l' m apart (λ q. same_path q a) keeps_path) start start (lines s)
      (lines s') h clear

  -- the last header that goes through it
  through_stays : (r r' : Reading) (l l' : Line) → IsLineMoved (moved_path p b) r r' l l'
      → AllOf (IsDisjoint b) (line_mentions r l) → leads_through a r' l' ≡ leads_through a r l
  through_stays r r' l l' m apart_line =
      let ms : List Mention = line_mentions r l in
      let kinds : kinds_at a (map (moved (moved_path p b)) ms) ≡ kinds_at a ms =
      ap (λ (q : List Part). kinds_at q (map (moved (moved_path p b)) ms)) (sym (disjoint_renamed p b a apart))
      ∙ mentions_moved (λ q. strip b q ≡ None) (moved_path p b) (renamed_injective p b) a fresh ms apart_line in
      ap₂ (λ (c d : Bool). c && d) (header_stays p b r r' l l' m apart_line)
      (ap (has is_through a) m.mentioned ∙ ap (list_any is_through) kinds)

  pub through_renamed : last_line (leads_through a) start (lines s') ≡ last_line (leads_through a) start (lines s)
  through_renamed = last_stays p b (leads_through a) through_stays start start (lines s) (lines s') h clear

-- the body of each header, by its number
pub bodies_renamed : (p b : List Part) (s s' : Document) → IsMovedTo p b s s' → AllOf (IsDisjoint b) (mentions_in s)
    → (i : ℕ) → body_end i (lines s') ≡ body_end i (lines s)
bodies_renamed p b s s' h clear i =
    ap (λ (n : ℕ). suc i + n) (lengths_behind p b (suc i) start start (lines s) (lines s') h clear)
