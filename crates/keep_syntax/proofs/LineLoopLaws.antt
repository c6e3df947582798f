-- What the code stores of lines, one after the other.
--
-- The invariant of the loop over lines is `LinesSoFar`: the lines so far are read, what they have is stored, and
-- reading the rest of the text completes the reading of all. It holds before the first line (`lines_none`), and after
-- one more (`lines_more`). A line's statement is pushed with the end of its line, which is known only after its newline
-- (`ended_is`). What is stored says how much comes before the next line (`count_is`). The loop ends at the last line
-- (`lines_end`), or at a fault (`lines_fail`).
--
-- Theorems: `lines_none`, `lines_more`, `lines_end`: the invariant holds, and at the end all lines are stored;
-- `lines_fail` for faults.
use Rattle.std.proofs.Common.{◌≡◌, ℕ, ◌+◌, List, [], ◌∷◌, ◌++◌, length, drop, Option, Some, None, Ok, refl, sym, ap}
use Rattle.std.proofs.Common.{◌∙◌, arith, append_assoc, IsCharBoundary}
use Rattle.std.specs.List.{flat_map}
use Rattle.std.proofs.lemmas.List.{append-nil, drop_all}
use Rattle.std.proofs.lemmas.Grind.{flat_map-append}
use Rattle.keep_types.specs.declared.leaf.Leaf.TheVariants as leaf
use Rattle.keep_types.specs.declared.leaf.Profile.{Profile}
use Rattle.keep_token.specs.Scanning.{gap_at}
use Rattle.keep_token.proofs.Shared.{Gaps, white, line, comment, nothing, gap_cases}
use Rattle.keep_syntax.specs.declared.fault.ReadFault.{ReadFault}
use Rattle.keep_types.specs.declared.syntax.Statement.{Statement}
use Rattle.keep_syntax.specs.Tree.{Written, Content, blank, keyval, header, element, Line, Ended, line_leaves}
use Rattle.keep_syntax.specs.Tree.{ended_leaves}
use Rattle.keep_syntax.specs.Numbered.{width, Count, line_parts, line_values, line_statements, content_statements}
use Rattle.keep_syntax.specs.Numbered.{after_lines}
use Rattle.keep_syntax.specs.Reading.{written, ended_at, lines_of}
use Rattle.keep_syntax_store.specs.Flat.{Flat}
use Rattle.keep_syntax.specs.Growth.{Taken, both, add_at, Grows, Fails}
use Rattle.keep_syntax_store.specs.Rereading.{count_at, with_statements}
use Rattle.keep_syntax.specs.FlatLines.{statement_list, newline_by, ended_list, EndedIs, LastIs, lines_taken, LinesAre}
use Rattle.keep_syntax.specs.WholeLines.{line_starts}
use Rattle.keep_syntax.proofs.LoopLaws.{done}
use Rattle.keep_syntax.proofs.GrowthLaws.{width-append}
use Rattle.keep_syntax.proofs.StepLaws.{lines_newline, lines_last, lines_err}
use Rattle.keep_syntax.proofs.LineNumberingLaws.{over_ended, ended-snoc, over-last, after_lines-at}
use Rattle.keep_syntax.proofs.LineNumberingLaws.{after_lines-statements, after_lines-parts, after_lines-values}
use Rattle.keep_syntax_store.proofs.Shared.{same_count, same_flat}
use Rattle.keep_syntax.proofs.GrowthLaws.{same_taken, grows_nothing, grows_then, grows_as, grown_keys, grown_values}
use Rattle.keep_syntax.proofs.GrowthLaws.{grown_statements}
use Rattle.keep_syntax.proofs.GapCodeLaws.{fails_through}

-- ---- a newline

newline_found : (text : List ℕ) (w : Written) (rest : List ℕ) → newline_by text (gap_at text) ≡ Ok (w, rest)
    → (n : ℕ) × (gap_at text ≡ Some (leaf.Newline, n)) × (w ≡ written leaf.Newline n text) × (rest ≡ drop n text)
newline_found text w rest e = by (gap_cases text)
  where
    by : Gaps text (gap_at text)
        → (n : ℕ) × (gap_at text ≡ Some (leaf.Newline, n)) × (w ≡ written leaf.Newline n text) × (rest ≡ drop n text)
    by (white r f) = absurd (let never = rw r at e in cc)
    by (line n r f found) =
        let is : done (written leaf.Newline n text, drop n text) ≡ done (w, rest) = rw r at e in
        let pair : (written leaf.Newline n text, drop n text) ≡ (w, rest) = cc in
        (n, r, sym (ap (λ (p : Written × List ℕ). p.0) pair), sym (ap (λ (p : Written × List ℕ). p.1) pair))
    by (comment n r f found stop) = absurd (let never = rw r at e in cc)
    by (nothing r f) = absurd (let never = rw r at e in cc)

-- ---- a line's statement, with another end of the line

ended_content : (c : Count) (l : Line) (s : Option Statement) (x y : ℕ) (k : Content)
    → statement_list s ≡ content_statements c l x k → ended_list y s ≡ content_statements c l y k
ended_content c l None x y blank e = refl
ended_content c l (Some s) x y blank e = absurd cc
ended_content c l None x y (keyval name value) e = absurd cc
ended_content c l (Some s) x y (keyval name value) e = moved s _ e
  where
    moved : (s t : Statement) → statement_list (Some s) ≡ t ∷ [] → ended_list y (Some s) ≡ ended_list y (Some t)
    moved s t e = let is : s ≡ t = cc in ap (λ (q : Statement). ended_list y (Some q)) is
ended_content c l None x y (header before key after) e = absurd cc
ended_content c l (Some s) x y (header before key after) e = moved s _ e
  where
    moved : (s t : Statement) → statement_list (Some s) ≡ t ∷ [] → ended_list y (Some s) ≡ ended_list y (Some t)
    moved s t e = let is : s ≡ t = cc in ap (λ (q : Statement). ended_list y (Some q)) is
ended_content c l None x y (element before key after) e = absurd cc
ended_content c l (Some s) x y (element before key after) e = moved s _ e
  where
    moved : (s t : Statement) → statement_list (Some s) ≡ t ∷ [] → ended_list y (Some s) ≡ ended_list y (Some t)
    moved s t e = let is : s ≡ t = cc in ap (λ (q : Statement). ended_list y (Some q)) is

ended_is : (c : Count) (l : Line) (s : Option Statement) (x y : ℕ) → statement_list s ≡ line_statements c l x
    → ended_list y s ≡ line_statements c l y
ended_is c l s x y e = ended_content c l s x y l.content e

-- ---- what is stored

abbrev stated_taken : List Statement → Taken
stated_taken ss = record { leaves = []; statements = ss; keys = []; values = [] }

grows_stated : (text : List ℕ) (ss : List Statement) (old new : Flat) (at : ℕ) → new ≡ with_statements ss old
    → Grows text old new at at (stated_taken ss)
unfolding add_at
grows_stated text ss old new at e = record {
  place = omega arith;
  stored =
      e ∙ same_flat (with_statements ss old) (add_at old at (stated_taken ss)) (sym (append-nil old.kinds))
      (sym (append-nil old.starts)) refl (sym (append-nil old.keys)) (sym (append-nil old.values));
  bounds = tt;
}

-- a line with its newline
abbrev one_taken : Count → Ended → Taken
one_taken c e =
    record {
      leaves = ended_leaves e;
      statements = line_statements c e.line (c.at + width (ended_leaves e));
      keys = line_parts c e.line;
      values = line_values c e.line;
    }

-- the last line
abbrev last_taken : Count → Line → Taken
last_taken c l =
    record {
      leaves = line_leaves l;
      statements = line_statements c l (c.at + width (line_leaves l));
      keys = line_parts c l;
      values = line_values c l;
    }

abbrev pub all_taken : Count → List Ended → Taken
all_taken c es = record {
  leaves = flat_map ended_leaves es;
  statements = over_ended line_statements c es;
  keys = over_ended (λ c l line_end. line_parts c l) c es;
  values = over_ended (λ c l line_end. line_values c l) c es;
}

all_snoc : (c : Count) (es : List Ended) (e : Ended)
    → both (all_taken c es) (one_taken (after_lines c es) e) ≡ all_taken c (es ++ (e ∷ []))
all_snoc c es e =
    same_taken _ (all_taken c (es ++ (e ∷ [])))
    (ap (λ (ws : List Written). flat_map ended_leaves es ++ ws) (sym (append-nil (ended_leaves e)))
    ∙ sym (flat_map-append ended_leaves es (e ∷ [])))
    (sym (ended-snoc line_statements c es e))
    (sym (ended-snoc (λ c l line_end. line_parts c l) c es e))
    (sym (ended-snoc (λ c l line_end. line_values c l) c es e))

all_last : (c : Count) (es : List Ended) (l : Line)
    → both (all_taken c es) (last_taken (after_lines c es) l) ≡ lines_taken c (es, l)
all_last c es l =
    same_taken _ (lines_taken c (es, l)) refl
    (sym (over-last line_statements c es l))
    (sym (over-last (λ c l line_end. line_parts c l) c es l))
    (sym (over-last (λ c l line_end. line_values c l) c es l))

-- what is stored tells what comes before the next line
count_is : (text : List ℕ) (begin here : ℕ) (old now : Flat) (es : List Ended)
    → Grows text old now begin here (all_taken (count_at begin old) es)
    → count_at here now ≡ after_lines (count_at begin old) es
count_is text begin here old now es g =
    let c = count_at begin old in
    same_count (count_at here now) (after_lines c es)
    (g.place ∙ sym (after_lines-at c es))
    (grown_statements (all_taken c es) g ∙ sym (after_lines-statements c es))
    (grown_keys (all_taken c es) g ∙ sym (after_lines-parts c es))
    (grown_values (all_taken c es) g ∙ sym (after_lines-values c es))

-- ---- where lines begin

-- one line more, and the next begins after it
line_starts-snoc : (at : ℕ) (es : List Ended) (e : Ended) (end : ℕ)
    → end ≡ at + width (flat_map ended_leaves (es ++ (e ∷ [])))
    → line_starts at (es ++ (e ∷ [])) ≡ line_starts at es ++ (end ∷ [])
line_starts-snoc at [] e end h = ap (λ (n : ℕ). at ∷ n ∷ []) (omega (arith, h, width-append (ended_leaves e) []))
line_starts-snoc at (d ∷ es) e end h =
    ap (λ (ns : List ℕ).
    at ∷ ns) (line_starts-snoc (at + width (ended_leaves d)) es e end
    (omega (arith, h, width-append (ended_leaves d) (flat_map ended_leaves (es ++ (e ∷ []))))))

-- ---- the loop

-- the lines so far, and where they and the next one begin
pub record LinesSoFar (profile : Profile) (depth_left : ℕ) (text : List ℕ) (begin here : ℕ) (old now : Flat)
    (before after : List ℕ) : Type 0 where
  pub prefix : List Ended
  pub bound : IsCharBoundary text here
  pub read : lines_of profile depth_left [] (drop begin text) ≡ lines_of profile depth_left prefix (drop here text)
  pub grows : Grows text old now begin here (all_taken (count_at begin old) prefix)
  pub starts : after ≡ before ++ line_starts begin prefix

pub lines_none : (profile : Profile) (depth_left : ℕ) (text : List ℕ) (begin : ℕ) (old : Flat) (before after : List ℕ)
    → IsCharBoundary text begin → after ≡ before ++ (begin ∷ [])
    → LinesSoFar profile depth_left text begin begin old old before after
lines_none profile depth_left text begin old before after bound first =
    record { prefix = []; bound = bound; read = refl; grows = grows_nothing text old begin; starts = first }

pub lines_fail : (profile : Profile) (depth_left : ℕ) (text : List ℕ) (begin here : ℕ) (old now : Flat)
    (before after : List ℕ) (e : ReadFault) → LinesSoFar profile depth_left text begin here old now before after
    → ((prefix : List Ended) → Fails text e (ended_at profile depth_left prefix (drop here text)))
    → Fails text e (lines_of profile depth_left [] (drop begin text))
lines_fail profile depth_left text begin here old now before after e s k =
    fails_through text e (ended_at profile depth_left s.prefix (drop here text))
    (lines_of profile depth_left [] (drop begin text))
    (λ d h. s.read ∙ lines_err profile depth_left s.prefix (drop here text) d h) (k s.prefix)

pub lines_more : (profile : Profile) (depth_left : ℕ) (text : List ℕ) (begin here end : ℕ) (old now new : Flat)
    (before after later : List ℕ) → LinesSoFar profile depth_left text begin here old now before after
    → EndedIs profile depth_left text here now new end
    → later ≡ after ++ (end ∷ []) → LinesSoFar profile depth_left text begin end old new before later
lines_more profile depth_left text begin here end old now new before after later s one_more next =
    let close = one_more.close in
    let st = one_more.statement in
    let i = one_more.line in
    let nl = one_more.newline in
    let c = count_at begin old in
    let n = count_at here now in
    let l = i.read.part in
    let w = nl.part in
    let e : Ended = record { line = l; newline = w } in
    let found = newline_found (drop close text) w (drop end text) nl.is_read in
    let ss = ended_list end st in
    let g = grows_then i.read.grows
    (grows_then nl.grows (grows_stated text ss one_more.ended new end one_more.stored)) in
    let stated : ss ≡ line_statements n l (n.at + width (ended_leaves e)) =
    ended_is n l st close end i.stated ∙ ap (line_statements n l) g.place in
    let one : Grows text now new here end (one_taken n e) =
    grows_as (one_taken n e) (same_taken _ (one_taken n e) refl stated (append-nil (line_parts n l))
    (append-nil (line_values n l))) g in
    let counted : Grows text now new here end (one_taken (after_lines c s.prefix) e) =
    grows_as (one_taken (after_lines c s.prefix) e)
    (ap (λ (m : Count). one_taken m e) (count_is text begin here old now s.prefix s.grows)) one in
    let all : Grows text old new begin end (all_taken c (s.prefix ++ (e ∷ []))) =
    grows_as (all_taken c (s.prefix ++ (e ∷ []))) (all_snoc c s.prefix e) (grows_then s.grows counted) in
    record {
      prefix = s.prefix ++ (e ∷ []);
      bound = nl.bound;
      read = s.read
          ∙ lines_newline profile depth_left s.prefix (drop here text) l (drop close text) found.0 i.read.is_read
          found.1
          ∙ ap (λ (x : Written). let d : Ended = record { line = l; newline = x } in
          lines_of profile depth_left (s.prefix ++ (d ∷ [])) (drop found.0 (drop close text))) (sym found.2)
          ∙ ap (λ (t : List ℕ). lines_of profile depth_left (s.prefix ++ (e ∷ [])) t) (sym found.3);
      grows = all;
      starts =
          next ∙ ap (λ (ns : List ℕ). ns ++ (end ∷ [])) s.starts
          ∙ append_assoc before (line_starts begin s.prefix) (end ∷ [])
          ∙ ap (λ (ns : List ℕ). before ++ ns) (sym (line_starts-snoc begin s.prefix e end all.place));
    }

pub lines_end : (profile : Profile) (depth_left : ℕ) (text : List ℕ) (begin here : ℕ) (old now new : Flat)
    (before after : List ℕ) → LinesSoFar profile depth_left text begin here old now before after
    → LastIs profile depth_left text here now new
    → LinesAre profile depth_left text begin old new before after
lines_end profile depth_left text begin here old now new before after s last =
    let close = length text in
    let st = last.statement in
    let i = last.line in
    let c = count_at begin old in
    let n = count_at here now in
    let l = i.read.part in
    let ss = ended_list close st in
    let g = grows_then i.read.grows (grows_stated text ss last.mid new close last.stored) in
    let stated : ss ≡ line_statements n l (n.at + width (line_leaves l)) =
    ended_is n l st close close i.stated ∙ ap (line_statements n l) i.read.grows.place in
    let one : Grows text now new here close (last_taken n l) =
    grows_as (last_taken n l) (same_taken _ (last_taken n l) (append-nil (line_leaves l)) stated
    (append-nil (line_parts n l)) (append-nil (line_values n l))) g in
    let counted : Grows text now new here close (last_taken (after_lines c s.prefix) l) =
    grows_as (last_taken (after_lines c s.prefix) l)
    (ap (λ (m : Count). last_taken m l) (count_is text begin here old now s.prefix s.grows)) one in
    let whole : Grows text old new begin close (lines_taken c (s.prefix, l)) =
    grows_as (lines_taken c (s.prefix, l)) (all_last c s.prefix l) (grows_then s.grows counted) in
    let nothing_left : drop close text ≡ [] = drop_all close text (omega arith) in
    record {
      read = record {
        part = (s.prefix, l);
        bound = i.read.bound;
        forward = omega (arith, s.grows.place, i.read.forward);
        is_read =
            s.read ∙ lines_last profile depth_left s.prefix (drop here text) l
            (i.read.is_read ∙ ap (λ (t : List ℕ). done (l, t)) nothing_left)
            ∙ ap (λ (t : List ℕ). done ((s.prefix, l), t)) (sym nothing_left);
        grows = whole;
      };
      starts = s.starts;
    }
