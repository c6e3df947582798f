-- Lines that say the same as others, line by line, with the paths changed.
--
-- Numbers are counts of statements, values and key parts, and a path counts for nothing: so what is numbered is the
-- same, with the paths changed (`numbered_of_moved`), and so are the full paths of the `[[..]]` lines
-- (`moved_document`). Where all that lines say is the same with the paths changed, and only one keyval is another, it
-- is so line by line (`lines_around`).
--
-- Theorems: `moved_document`: the document says the same with the paths changed, and all numbers stay;
-- `lines_around`: line by line, where one keyval is another; `split_even`.
use Rattle.std.proofs.Common.{◌≡◌, ◌+◌, Bool, true, false, cond, List, [], ◌∷◌, ◌++◌, length, map, refl, sym, ap, ap₂}
use Rattle.std.proofs.Common.{subst, ◌∙◌, arith, length-append, Option, Some, None}
use Rattle.std.specs.Prelude.{⊤}
use Rattle.std.specs.List.{filter_map, cons_option}
use Rattle.std.specs.Option.{is_some}
use Rattle.std.proofs.lemmas.List.{map-append, length-map}
use Rattle.keep_syntax.specs.Tree.{Line, Document}
use Rattle.keep_path.specs.Path.{Part}
use Rattle.keep_meaning.specs.Marks.{Mention, Statement, keyval, Reading, statement_mentions, next_reading}
use Rattle.keep_meaning.specs.Marks.{reading_after, start}
use Rattle.keep_meaning.specs.Meaning.{statement_of, line_mentions, after_line, lines_mentions, lines, mentions_in}
use Rattle.keep_meaning.specs.Counts.{Count, Numbered, count_with_mention, count_after, next_count, no_count}
use Rattle.keep_meaning.specs.Counts.{numbered_mentions, numbered_from, line_statement, statements_in, numbered_in}
use Rattle.keep_meaning.specs.Nodes.{is_element}
use Rattle.keep_edit_spec.specs.Refusals.{tables_in}
use Rattle.keep_edit_spec.proofs.Common.Moves.{moved}
use Rattle.keep_edit_spec.proofs.Common.StatementNumbers.{reading_lines}
use Rattle.keep_edit_spec.proofs.Append.AppendTable.{tables_stated}

-- both are statements or neither is, and the second says the same
pub record IsLineMoved (f : List Part → List Part) (r r' : Reading) (l l' : Line) : Type 0 where
  pub stated : is_some (statement_of l'.content) ≡ is_some (statement_of l.content)
  pub mentioned : line_mentions r' l' ≡ map (moved f) (line_mentions r l)

abbrev pub AreLinesMoved : (List Part → List Part) → Reading → Reading → List Line → List Line → Type 0
AreLinesMoved f r r' [] [] = ⊤
AreLinesMoved f r r' [] (l' ∷ ls') = ⊥
AreLinesMoved f r r' (l ∷ ls) [] = ⊥
AreLinesMoved f r r' (l ∷ ls) (l' ∷ ls') =
    IsLineMoved f r r' l l' × AreLinesMoved f (after_line r l) (after_line r' l') ls ls'

pub mentions_of_moved : (f : List Part → List Part) (r r' : Reading) (ls ls' : List Line) → AreLinesMoved f r r' ls ls'
    → lines_mentions r' ls' ≡ map (moved f) (lines_mentions r ls)
mentions_of_moved f r r' [] [] h = refl
mentions_of_moved f r r' [] (l' ∷ ls') h = absurd h
mentions_of_moved f r r' (l ∷ ls) [] h = absurd h
mentions_of_moved f r r' (l ∷ ls) (l' ∷ ls') h =
    ap (λ (ms : List Mention). ms ++ lines_mentions (after_line r' l') ls') h.0.mentioned
    ∙ ap (λ (ms : List Mention). map (moved f) (line_mentions r l) ++ ms)
    (mentions_of_moved f (after_line r l) (after_line r' l') ls ls' h.1)
    ∙ sym (map-append (moved f) (line_mentions r l) (lines_mentions (after_line r l) ls))

-- ---- numbers

abbrev pub moved_numbered : (List Part → List Part) → Numbered → Numbered
moved_numbered f n = record { mention = moved f n.mention; before = n.before }

numbered_mentions_moved : (f : List Part → List Part) (c : Count) (ms : List Mention)
    → numbered_mentions c (map (moved f) ms) ≡ map (moved_numbered f) (numbered_mentions c ms)
numbered_mentions_moved f c [] = refl
numbered_mentions_moved f c (m ∷ ms) =
    ap (λ (ns : List Numbered). record { mention = moved f m; before = c } ∷ ns)
    (numbered_mentions_moved f (count_with_mention c m) ms)

count_moved : (f : List Part → List Part) (c : Count) (ms : List Mention)
    → count_after c (map (moved f) ms) ≡ count_after c ms
count_moved f c [] = refl
count_moved f c (m ∷ ms) = count_moved f (count_with_mention c m) ms

next_moved : (f : List Part → List Part) (c : Count) (ms : List Mention)
    → next_count c (map (moved f) ms) ≡ next_count c ms
next_moved f c ms =
    ap (λ (d : Count). record { statements = d.statements + 1; values = d.values; keys = d.keys }) (count_moved f c ms)

abbrev mentions_by : Reading → Option Statement → List Mention
mentions_by r o = elim o [ None ↦ [] | Some s ↦ statement_mentions r s ]

abbrev reading_by : Reading → Option Statement → Reading
reading_by r o = elim o [ None ↦ r | Some s ↦ next_reading r s ]

numbered_by : (f : List Part → List Part) (c : Count) (r r' : Reading) (rest rest' : List Statement)
    (o o' : Option Statement) → is_some o' ≡ is_some o → mentions_by r' o' ≡ map (moved f) (mentions_by r o)
    → ((d : Count)
    → numbered_from d (reading_by r' o') rest' ≡ map (moved_numbered f) (numbered_from d (reading_by r o) rest))
    → numbered_from c r' (cons_option o' rest') ≡ map (moved_numbered f) (numbered_from c r (cons_option o rest))
numbered_by f c r r' rest rest' None None stated mentioned more = more c
numbered_by f c r r' rest rest' None (Some s') stated mentioned more = absurd cc
numbered_by f c r r' rest rest' (Some s) None stated mentioned more = absurd cc
numbered_by f c r r' rest rest' (Some s) (Some s') stated mentioned more =
    let ms : List Mention = statement_mentions r s in
    ap (λ (l : List Mention). numbered_mentions c l ++ numbered_from (next_count c l) (next_reading r' s') rest')
    mentioned
    ∙ ap (λ (ns : List Numbered). ns ++ numbered_from (next_count c (map (moved f) ms)) (next_reading r' s') rest')
    (numbered_mentions_moved f c ms)
    ∙ ap (λ (d : Count). map (moved_numbered f) (numbered_mentions c ms) ++ numbered_from d (next_reading r' s') rest')
    (next_moved f c ms)
    ∙ ap (λ (ns : List Numbered). map (moved_numbered f) (numbered_mentions c ms) ++ ns) (more (next_count c ms))
    ∙ sym (map-append (moved_numbered f) (numbered_mentions c ms)
    (numbered_from (next_count c ms) (next_reading r s) rest))

pub numbered_of_moved : (f : List Part → List Part) (c : Count) (r r' : Reading) (ls ls' : List Line)
    → AreLinesMoved f r r' ls ls'
    → numbered_from c r' (filter_map line_statement ls')
    ≡ map (moved_numbered f) (numbered_from c r (filter_map line_statement ls))
numbered_of_moved f c r r' [] [] h = refl
numbered_of_moved f c r r' [] (l' ∷ ls') h = absurd h
numbered_of_moved f c r r' (l ∷ ls) [] h = absurd h
numbered_of_moved f c r r' (l ∷ ls) (l' ∷ ls') h =
    numbered_by f c r r' (filter_map line_statement ls) (filter_map line_statement ls') (statement_of l.content)
    (statement_of l'.content) h.0.stated h.0.mentioned
    (λ d. numbered_of_moved f d (after_line r l) (after_line r' l') ls ls' h.1)

-- ---- the document

-- the full paths of the `[[..]]` lines
tables_moved : (f : List Part → List Part) (ms : List Mention) → tables_in (map (moved f) ms) ≡ map f (tables_in ms)
tables_moved f [] = refl
tables_moved f (m ∷ ms) = by (is_element m.kind) (tables_moved f ms)
  where
    by : (b : Bool) → tables_in (map (moved f) ms) ≡ map f (tables_in ms)
        → cons_option (cond b (Some (f m.path)) None) (tables_in (map (moved f) ms))
        ≡ map f (cons_option (cond b (Some m.path) None) (tables_in ms))
    by true e = ap (λ (ts : List (List Part)). f m.path ∷ ts) e
    by false e = e

-- The new document says the same with the paths changed, and all numbers stay.
pub record IsDocumentMoved (f : List Part → List Part) (s s' : Document) : Type 0 where
  pub numbered : numbered_in s' ≡ map (moved_numbered f) (numbered_in s)
  pub mentioned : mentions_in s' ≡ map (moved f) (mentions_in s)
  pub tables : (reading_after start (statements_in s')).tables ≡ map f (reading_after start (statements_in s)).tables

pub tables_at_end : (s : Document) → (reading_after start (statements_in s)).tables ≡ tables_in (mentions_in s)
tables_at_end s = ap (λ (r : Reading). r.tables) (reading_lines start (lines s)) ∙ tables_stated start (lines s)

pub moved_document : (f : List Part → List Part) (s s' : Document) → AreLinesMoved f start start (lines s) (lines s')
    → IsDocumentMoved f s s'
moved_document f s s' h =
    let mentioned : mentions_in s' ≡ map (moved f) (mentions_in s) =
    mentions_of_moved f start start (lines s) (lines s') h in
    record {
      numbered = numbered_of_moved f no_count start start (lines s) (lines s') h;
      mentioned = mentioned;
      tables =
          tables_at_end s' ∙ ap tables_in mentioned ∙ tables_moved f (mentions_in s)
          ∙ ap (map f) (sym (tables_at_end s));
    }

-- ---- where one keyval is another

split_same : {A : Type 0} (g : A → A) (xs ys zs : List A) → xs ++ ys ≡ map g xs ++ zs → (xs ≡ map g xs) × (ys ≡ zs)
split_same g [] ys zs e = (refl, e)
split_same g (x ∷ xs) ys zs e =
    let one : x ≡ g x = cc in
    let rest : xs ++ ys ≡ map g xs ++ zs = cc in
    let (same, after) = split_same g xs ys zs rest in
    (ap₂ (λ y l. y ∷ l) one same, after)

pub split_even : {A : Type 0} (xs us ys vs : List A) → length xs ≡ length us → xs ++ ys ≡ us ++ vs
    → (xs ≡ us) × (ys ≡ vs)
split_even [] [] ys vs many e = (refl, e)
split_even [] (u ∷ us) ys vs many e = absurd (omega (arith, many))
split_even (x ∷ xs) [] ys vs many e = absurd (omega (arith, many))
split_even (x ∷ xs) (u ∷ us) ys vs many e =
    let one : x ≡ u = cc in
    let rest : xs ++ ys ≡ us ++ vs = cc in
    let (same, after) = split_even xs us ys vs (omega (arith, many)) rest in
    (ap₂ (λ y l. y ∷ l) one same, after)

-- the same lines
lines_fixed : (f : List Part → List Part) (r : Reading) (ls : List Line)
    → lines_mentions r ls ≡ map (moved f) (lines_mentions r ls) → AreLinesMoved f r r ls ls
lines_fixed f r [] e = tt
lines_fixed f r (l ∷ ls) e =
    let (first, rest) =
    split_same (moved f) (line_mentions r l) (lines_mentions (after_line r l) ls) _
    (e ∙ map-append (moved f) (line_mentions r l) (lines_mentions (after_line r l) ls)) in
    (record { stated = refl; mentioned = first }, lines_fixed f (after_line r l) ls rest)

-- a keyval in the place of another
pub lines_around : (f : List Part → List Part) (r : Reading) (pre post : List Line) (l l' : Line)
    (ms ms' : List Mention) → statement_of l.content ≡ Some (keyval ms) → statement_of l'.content ≡ Some (keyval ms')
    → lines_mentions r (pre ++ l' ∷ post) ≡ map (moved f) (lines_mentions r (pre ++ l ∷ post))
    → AreLinesMoved f r r (pre ++ l ∷ post) (pre ++ l' ∷ post)
lines_around f r (x ∷ pre) post l l' ms ms' was is e =
    let (first, rest) =
    split_same (moved f) (line_mentions r x) (lines_mentions (after_line r x) (pre ++ l' ∷ post)) _
    (e ∙ map-append (moved f) (line_mentions r x) (lines_mentions (after_line r x) (pre ++ l ∷ post))) in
    (record { stated = refl; mentioned = first }, lines_around f (after_line r x) pre post l l' ms ms' was is rest)
lines_around f r [] post l l' ms ms' was is e =
    let same : after_line r l ≡ r = ap (reading_by r) was in
    let same' : after_line r l' ≡ r = ap (reading_by r) is in
    let right : List Mention = lines_mentions r post in
    let whole : line_mentions r l' ++ right ≡ map (moved f) (line_mentions r l) ++ map (moved f) right =
    ap (λ (q : Reading). line_mentions r l' ++ lines_mentions q post) (sym same') ∙ e
    ∙ ap (λ (q : Reading). map (moved f) (line_mentions r l ++ lines_mentions q post)) same
    ∙ map-append (moved f) (line_mentions r l) right in
    let (first, rest) = split_even (line_mentions r l') (map (moved f) (line_mentions r l)) right (map (moved f) right)
    (omega (
      arith,
      ap length whole,
      length-append (line_mentions r l') right,
      length-append (map (moved f) (line_mentions r l)) (map (moved f) right),
      length-map right (moved f),
    )) whole in (
      record { stated = ap is_some is ∙ sym (ap is_some was); mentioned = first },
      subst (λ (q : Reading). AreLinesMoved f q (after_line r l') post post) (sym same)
          (subst (λ (q : Reading). AreLinesMoved f r q post post) (sym same') (lines_fixed f r post rest)),
    )
