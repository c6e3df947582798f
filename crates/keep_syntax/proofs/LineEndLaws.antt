-- How a line ends, and what the code stores of a line with its end.
--
-- After its content a line has a comment, and then a newline, unless the text ends (`EndRead`). With what comes before
-- it that is the line (`LineRead`): one without a statement (`blank_line`), or one with a statement (`stated_line`),
-- which is stored once the end is known.
--
-- Theorems: `blank_line`, `stated_line`: the line is read, and what it has is stored; `content_fails` and
-- `stated_fails` for faults.
use Rattle.std.proofs.Common.{◌≡◌, ℕ, ◌<◌, true, List, [], ◌∷◌, length, get_or, drop, Option, Some, None, Result, Ok}
use Rattle.std.proofs.Common.{Err, refl, sym, ap, ◌∙◌, subst, arith, unwrap_or}
use Rattle.std.proofs.lemmas.List.{append-nil, length-drop}
use Rattle.keep_types.specs.declared.leaf.Profile.{Profile}
use Rattle.keep_types.specs.declared.syntax.Start.{Start}
use Rattle.keep_token.specs.Scanning.{gap_at}
use Rattle.keep_token.proofs.Shared.{Gaps, white, line, comment, nothing, gap_cases}
use Rattle.keep_syntax.specs.declared.fault.ReadFault.{ReadFault}
use Rattle.keep_syntax.specs.declared.line.Head.{Head}
use Rattle.keep_syntax.specs.Tree.{Gap, Content, blank, Line, Ended}
use Rattle.keep_syntax.specs.Reading.{Fault, Bad, space_at, is_line_end, content_at, after_of, comment_at, line_at}
use Rattle.keep_syntax.specs.Reading.{newline_of, after_line, ended_at}
use Rattle.keep_syntax_store.specs.Flat.{Flat}
use Rattle.keep_syntax_store.proofs.Shared.{same_flat}
use Rattle.keep_syntax.specs.Growth.{only, Fails, SpaceRead}
use Rattle.keep_syntax.specs.FlatLines.{ContentIs, CommentRead, newline_by, NewlineRead, EndRead, LineRead}
use Rattle.keep_syntax.specs.FlatLines.{NewlineOrEndRead, with_statements}
use Rattle.keep_syntax.proofs.LoopLaws.{ok_is}
use Rattle.keep_syntax.proofs.GrowthLaws.{grown_keys, grown_values, grown_statements}
use Rattle.keep_syntax.proofs.GapCodeLaws.{fails_through}
use Rattle.keep_syntax.proofs.LineCodeLaws.{start_of, stated_by, after_space, blank_content, line_blank, line_fails}
use Rattle.keep_syntax.proofs.LineCodeLaws.{line_is}

-- what is read has no fault but that memory ran out
pub only_memory : {A B : Type 0} (text : List ℕ) (e : ReadFault) (x : A) (r : Result B Fault) → Fails text e (Ok x)
    → Fails text e r
only_memory text e x r k = fails_through text e (Ok x) r (λ d h. absurd cc) k

-- ---- the end of a line

after_bad : (prefix : List Ended) (l : Line) (text : List ℕ) (d : Fault) → 0 < length text
    → newline_by text (gap_at text) ≡ Err d → after_line prefix l text ≡ Err d
after_bad prefix l [] d some e = absurd (omega arith)
after_bad prefix l (c ∷ cs) d some e = by (gap_cases (c ∷ cs))
  where
    by : Gaps (c ∷ cs) (gap_at (c ∷ cs)) → newline_of prefix l (c ∷ cs) (gap_at (c ∷ cs)) ≡ Err d
    by (white r f) = let is : Bad ≡ d = (let bad = rw r at e in cc) in rw (r, sym is) refl
    by (line n r f found) = absurd (let never = rw r at e in cc)
    by (comment n r f found stop) = let is : Bad ≡ d = (let bad = rw r at e in cc) in rw (r, sym is) refl
    by (nothing r f) = let is : Bad ≡ d = (let bad = rw r at e in cc) in rw (r, sym is) refl

-- the text ends after the comment
end_at_end : (text : List ℕ) (at end : ℕ) (old mid new : Flat) → CommentRead text at old mid (Ok end)
    → end ≡ length text → new ≡ mid → EndRead text at old new (Ok None)
end_at_end text at end old mid new k is same =
    rw (sym same) at (subst (λ (m : ℕ). CommentRead text at old mid (Ok m)) is k)

-- neither a newline nor the end follows
end_refused : (text : List ℕ) (at end : ℕ) (old mid new : Flat) (e : ReadFault)
    → CommentRead text at old mid (Ok end) → (end ≡ length text → ⊥) → NewlineRead text end mid new (Err e)
    → EndRead text at old new (Err e)
end_refused text at end old mid new e k more nl = λ prefix l.
    let rest = drop end text in
    let after : (comment_at (drop at text)).1 ≡ rest =
    ap (λ p. p.1) (ok_is (comment_at (drop at text)) (k.part, rest) k.is_read) in
    let some : 0 < length rest = omega (arith, length-drop end text, k.bound.0, more) in
    fails_through text e (newline_by rest (gap_at rest)) (after_line prefix l (comment_at (drop at text)).1)
    (λ d h. ap (after_line prefix l) after ∙ after_bad prefix l rest d some h) nl

-- what ends the line follows the comment
pub line_ends : (text : List ℕ) (at end : ℕ) (old mid new : Flat) (r : Result (Option ℕ) ReadFault)
    → CommentRead text at old mid (Ok end) → NewlineOrEndRead text end mid new r → EndRead text at old new r
line_ends text at end old mid new (Ok (Some next)) k s =
    record { close = end; mid = mid; comment = k; newline = s }
line_ends text at end old mid new (Ok None) k s = end_at_end text at end old mid new k s.0 s.1
line_ends text at end old mid new (Err e) k s = end_refused text at end old mid new e k s.0 s.1

-- ---- a line

ended_err : (profile : Profile) (depth_left : ℕ) (prefix : List Ended) (text : List ℕ) (d : Fault)
    → line_at profile depth_left text ≡ Err d → ended_at profile depth_left prefix text ≡ Err d
unfolding ended_at
ended_err profile depth_left prefix text d e = rw e refl

ended_after : (profile : Profile) (depth_left : ℕ) (prefix : List Ended) (text : List ℕ) (l : Line) (rest : List ℕ)
    → line_at profile depth_left text ≡ Ok (l, rest)
    → ended_at profile depth_left prefix text ≡ after_line prefix l rest
unfolding ended_at
ended_after profile depth_left prefix text l rest e = rw e refl

-- the line of these parts, and the text after its comment
line_to_end : (profile : Profile) (depth_left : ℕ) (text : List ℕ) (at begin close after : ℕ) (g a : Gap) (c : Content)
    → space_at (drop at text) ≡ (g, drop begin text)
    → content_at profile depth_left (drop begin text) ≡ Ok (c, drop close text)
    → after_of c (drop close text) ≡ (a, drop after text)
    → line_at profile depth_left (drop at text)
    ≡ Ok (
      record { before = g; content = c; after = a; comment = (comment_at (drop after text)).0 },
      (comment_at (drop after text)).1,
    )
unfolding line_at
line_to_end profile depth_left text at begin close after g a c e1 e2 e3 = rw (e1, e2, e3) refl

-- a fault after these parts is a fault of the line
end_fails : (profile : Profile) (depth_left : ℕ) (text : List ℕ) (at begin close after : ℕ) (g a : Gap) (c : Content)
    (e : ReadFault) → space_at (drop at text) ≡ (g, drop begin text)
    → content_at profile depth_left (drop begin text) ≡ Ok (c, drop close text)
    → after_of c (drop close text) ≡ (a, drop after text)
    → ((prefix : List Ended) (l : Line) → Fails text e (after_line prefix l (comment_at (drop after text)).1))
    → (prefix : List Ended) → Fails text e (ended_at profile depth_left prefix (drop at text))
end_fails profile depth_left text at begin close after g a c e e1 e2 e3 k prefix =
    let l : Line = record { before = g; content = c; after = a; comment = (comment_at (drop after text)).0 } in
    let is =
    ended_after profile depth_left prefix (drop at text) l (comment_at (drop after text)).1
    (line_to_end profile depth_left text at begin close after g a c e1 e2 e3) in
    rw is (k prefix l)

-- a fault of the content is a fault of the line
pub content_fails : (profile : Profile) (depth_left : ℕ) (text : List ℕ) (at begin : ℕ) (old new : Flat) (e : ReadFault)
    → SpaceRead text at old new (Ok begin) → Fails text e (content_at profile depth_left (drop begin text))
    → (prefix : List Ended) → Fails text e (ended_at profile depth_left prefix (drop at text))
content_fails profile depth_left text at begin old new e s k prefix =
    fails_through text e (line_at profile depth_left (drop at text)) (ended_at profile depth_left prefix (drop at text))
    (λ d h. ended_err profile depth_left prefix (drop at text) d h)
    (line_fails profile depth_left text at begin old new e s k)

no_statements : (f : Flat) → f ≡ with_statements [] f
no_statements f = same_flat f (with_statements [] f) refl refl (sym (append-nil f.statements)) refl refl

-- a line without a statement
pub blank_line : (profile : Profile) (depth_left : ℕ) (text : List ℕ) (at begin : ℕ) (old f1 new : Flat)
    (r : Result (Option ℕ) ReadFault) → SpaceRead text at old f1 (Ok begin) → is_line_end (get_or text begin 0) ≡ true
    → EndRead text begin f1 new r → LineRead profile depth_left text at old new r
blank_line profile depth_left text at begin old f1 new (Ok (Some next)) s is k = record {
  close = k.close;
  statement = None;
  mid = k.mid;
  ended = new;
  line = line_blank profile depth_left text at begin k.close old f1 k.mid s is k.comment;
  newline = k.newline;
  stored = no_statements new;
}
blank_line profile depth_left text at begin old f1 new (Ok None) s is k = record {
  statement = None;
  mid = new;
  line = line_blank profile depth_left text at begin (length text) old f1 new s is k;
  stored = no_statements new;
}
blank_line profile depth_left text at begin old f1 new (Err e) s is k =
    end_fails profile depth_left text at begin begin begin s.part [] blank e
    (ok_is (space_at (drop at text)) (s.part, drop begin text) s.is_read)
    (blank_content profile depth_left text begin is) refl k

-- white space adds no statement, no value and no key part
start_kept : (text : List ℕ) (at begin : ℕ) (old new : Flat) → SpaceRead text at old new (Ok begin)
    → start_of begin new ≡ start_of begin old
start_kept text at begin old new s =
    let stated : length new.statements ≡ length old.statements =
    omega (arith, grown_statements (only s.part) s.grows) in
    let values : length new.values ≡ length old.values = omega (arith, grown_values (only s.part) s.grows) in
    let keys : length new.keys ≡ length old.keys = omega (arith, grown_keys (only s.part) s.grows) in
    rw (stated, values, keys) refl

-- a line with a statement, whose key parts begin at this number
pub stated_line : (profile : Profile) (depth_left : ℕ) (text : List ℕ) (at begin close after : ℕ)
    (old f1 f2 f3 f4 new : Flat) (p : Start) (h : Head) (next : Option ℕ) (number : ℕ)
    → SpaceRead text at old f1 (Ok begin) → p ≡ start_of begin f1 → number ≡ length f1.keys
    → ContentIs profile depth_left text p f1 f2 close h
    → SpaceRead text close f2 f3 (Ok after) → EndRead text after f3 f4 (Ok next)
    → new ≡ with_statements (stated_by h begin close at (unwrap_or next (length text)) number ∷ []) f4
    → LineRead profile depth_left text at old new (Ok next)
stated_line profile depth_left text at begin close after old f1 f2 f3 f4 new p h (Some next) number s pe ne con a k is =
    record {
      close = k.close;
      statement = Some (stated_by h begin close at k.close (length old.keys));
      mid = k.mid;
      ended = f4;
      line = line_is profile depth_left text at begin close after k.close old f1 f2 f3 k.mid p h s
          (pe ∙ start_kept text at begin old f1 s) con a k.comment;
      newline = k.newline;
      stored =
          is ∙ ap (λ (n : ℕ). with_statements (stated_by h begin close at next n ∷ []) f4)
          (ne ∙ ap (λ (q : Start). q.parts) (start_kept text at begin old f1 s));
    }
stated_line profile depth_left text at begin close after old f1 f2 f3 f4 new p h None number s pe ne con a k is =
    record {
      statement = Some (stated_by h begin close at (length text) (length old.keys));
      mid = f4;
      line = line_is profile depth_left text at begin close after (length text) old f1 f2 f3 f4 p h s
          (pe ∙ start_kept text at begin old f1 s) con a k;
      stored =
          is ∙ ap (λ (n : ℕ). with_statements (stated_by h begin close at (length text) n ∷ []) f4)
          (ne ∙ ap (λ (q : Start). q.parts) (start_kept text at begin old f1 s));
    }

-- a fault at the end of a line with a statement
pub stated_fails : (profile : Profile) (depth_left : ℕ) (text : List ℕ) (at begin close after : ℕ)
    (old f1 f2 f3 new : Flat) (p : Start) (h : Head) (e : ReadFault) → SpaceRead text at old f1 (Ok begin)
    → p ≡ start_of begin f1 → ContentIs profile depth_left text p f1 f2 close h
    → SpaceRead text close f2 f3 (Ok after) → EndRead text after f3 new (Err e) → (prefix : List Ended)
    → Fails text e (ended_at profile depth_left prefix (drop at text))
stated_fails profile depth_left text at begin close after old f1 f2 f3 new p h e s pe con a k prefix =
    let c = con.read.part in
    let pat : p.at ≡ begin = ap (λ (q : Start). q.at) pe in
    end_fails profile depth_left text at begin close after s.part a.part c e
    (ok_is (space_at (drop at text)) (s.part, drop begin text) s.is_read)
    (ap (λ (m : ℕ). content_at profile depth_left (drop m text)) (sym pat) ∙ con.read.is_read)
    (after_space p c h (drop close text) con.stated
    ∙ ok_is (space_at (drop close text)) (a.part, drop after text) a.is_read) k prefix
