-- A line gone that leaves the reading as it is: what is known of the others.
--
-- The other lines are read as before. So the last that passes a test is the same, at its number or at one less
-- (`last_without`); where none of the lines could be changed, none can be now (`none_without`); and a keyval's own line
-- says that there is a value, if the document obeys the rules (`own_fact`), so a remove of it is not refused.
--
-- Theorems: `last_without`, `none_without`, `own_node`, `own_allowed`.
use Rattle.std.proofs.Common.{◌≡◌, ℕ, zero, suc, Bool, true, false, cond, not, ◌||◌, List, [], ◌∷◌, ◌++◌, length, map}
use Rattle.std.proofs.Common.{refl, sym, ap, ap₂, subst, ◌∙◌, arith, Option, Some, None}
use Rattle.std.specs.List.{filter_map, list_any}
use Rattle.std.specs.Option.{option_map}
use Rattle.std.proofs.lemmas.List.{append-nil}
use Rattle.keep_types.specs.declared.leaf.Profile.{Profile}
use Rattle.keep_syntax.specs.Tree.{Body, Line, Ended, Document, ended_leaves, text_of}
use Rattle.keep_path.specs.Path.{Part, strip}
use Rattle.keep_meaning.specs.Fact.{Fact, is_value_fact}
use Rattle.keep_meaning.specs.Marks.{Mention, MentionKind, Reading, below, fact_of, start}
use Rattle.keep_meaning.specs.Meaning.{after_line, body_fact, keyval_mentions, line_of, lines, lines_mentions}
use Rattle.keep_meaning.specs.Meaning.{mentions_in, reading_after_lines, step}
use Rattle.keep_meaning.specs.Nodes.{fact_at, first_of, is_node, is_root, kinds_at}
use Rattle.keep_edit_spec.specs.declared.fault.EditFault.TheVariants as fault
use Rattle.keep_edit_spec.specs.Changed.{Changed, or_else, within}
use Rattle.keep_edit_spec.specs.Edits.{remove}
use Rattle.keep_edit_spec.specs.Lines.{Page, in_lines, last_line, page_text}
use Rattle.keep_edit_spec.specs.Refusals.{first_that_holds, has_value, is_one_piece, refusal}
use Rattle.keep_edit_spec.proofs.Common.BodyEnd.{IsLast, last_found}
use Rattle.keep_edit_spec.proofs.Common.DoneAtValue.{value_fact-body}
use Rattle.keep_edit_spec.proofs.Common.InValue.{beside_keyval}
use Rattle.keep_edit_spec.proofs.Common.InsertLaw.{tree_put-by}
use Rattle.keep_edit_spec.proofs.Common.Runs.{Rules, strip-append}
use Rattle.keep_edit_spec.proofs.Common.SetDocument.{whole_mentions}
use Rattle.keep_edit_spec.proofs.Remove.RemoveLines.{IsOwnLine, own_line}
use Rattle.keep_edit_spec.proofs.Lists.BodyEnds.{later_before, later_from, later_suc}
use Rattle.keep_edit_spec.proofs.Lists.Places.{later_line}
use Rattle.keep_edit_spec.proofs.Lists.RemovedPlaces.{mine}
use Rattle.keep_edit_spec.proofs.Lists.SaidOfPrefixes.{node_kinds}

-- ---- the last line that passes

abbrev pub last_or : Bool → Option ℕ → Option ℕ
last_or b o = elim o [ Some n ↦ Some (suc n) | None ↦ cond b (Some zero) None ]

pub last_without : (test : Reading → Line → Bool) (r : Reading) (first : List Line) (l : Line) (more : List Line)
    → after_line (reading_after_lines r first) l ≡ reading_after_lines r first
    → test (reading_after_lines r first) l ≡ false
    → last_line test r (first ++ l ∷ more) ≡ option_map (later_line (length first)) (last_line test r (first ++ more))
last_without test r [] l more keeps fails =
    ap₂ (λ (b : Bool) (x : Reading). last_or b (last_line test x more)) fails keeps ∙ by (last_line test r more)
  where
    by : (o : Option ℕ) → last_or false o ≡ option_map (later_line 0) o
    by None = refl
    by (Some n) = ap (λ (m : ℕ). Some m) (sym (later_from 0 n (omega arith)))
last_without test r (x ∷ first) l more keeps fails =
    ap (last_or (test r x)) (last_without test (after_line r x) first l more keeps fails)
    ∙ by (test r x) (last_line test (after_line r x) (first ++ more))
  where
    by : (b : Bool) (o : Option ℕ) → last_or b (option_map (later_line (length first)) o)
        ≡ option_map (later_line (suc (length first))) (last_or b o)
    by true None = ap (λ (m : ℕ). Some m) (sym (later_before (suc (length first)) 0 (omega arith)))
    by false None = refl
    by b (Some n) = ap (λ (m : ℕ). Some m) (later_suc (length first) n)

-- ---- the first line that can be changed

or_none : {A : Type 0} (a b : Option A) → or_else a b ≡ None → (a ≡ None) × (b ≡ None)
or_none None b e = (refl, e)
or_none (Some a) b e = absurd cc

pub within_none : {A B : Type 0} (outer : A → B) (left right : List ℕ) (o : Option (Changed A))
    → within outer left right o ≡ None → o ≡ None
within_none outer left right None e = refl
within_none outer left right (Some c) e = absurd cc

module _ (f : Reading → Line → Option (Changed Line)) (last : Line) where
  abbrev pub here_in : Reading → Ended → List Ended → Option (Changed Line) → Option (Changed Page)
  here_in r e es = within (λ l. record { ended = record { line = l; newline = e.newline } ∷ es; last = last }) []
      (e.newline.text ++ page_text (record { ended = es; last = last }))

  abbrev pub later_in : Ended → Option (Changed Page) → Option (Changed Page)
  later_in e = within (λ b. record { ended = e ∷ b.ended; last = b.last }) (text_of (ended_leaves e)) []

  pub record IsNone (r : Reading) (e : Ended) (es : List Ended) : Type 0 where
    pub here : f r e.line ≡ None
    pub later : in_lines f (after_line r e.line) es last ≡ None

  pub none_parts : (r : Reading) (e : Ended) (es : List Ended) → in_lines f r (e ∷ es) last ≡ None → IsNone r e es
  none_parts r e es h =
      let rest : Option (Changed Page) = in_lines f (after_line r e.line) es last in
      let both : (here_in r e es (f r e.line) ≡ None) × (later_in e rest ≡ None) =
      or_none (here_in r e es (f r e.line)) (later_in e rest) h in
      record {
        here = within_none (λ l. record { ended = record { line = l; newline = e.newline } ∷ es; last = last }) []
            (e.newline.text ++ page_text (record { ended = es; last = last })) (f r e.line) both.0;
        later = within_none (λ b. record { ended = e ∷ b.ended; last = b.last }) (text_of (ended_leaves e)) [] rest
            both.1;
      }

  pub none_without : (r : Reading) (first : List Ended) (e : Ended) (more : List Ended)
      → (let x : Reading = reading_after_lines r (map line_of first) in
      after_line x e.line ≡ x → in_lines f r (first ++ e ∷ more) last ≡ None
      → in_lines f r (first ++ more) last ≡ None)
  none_without r [] e more keeps h =
      subst (λ (x : Reading). in_lines f x more last ≡ None) keeps (none_parts r e more h).later
  none_without r (x ∷ first) e more keeps h =
      let p : IsNone r x (first ++ e ∷ more) = none_parts r x (first ++ e ∷ more) h in
      ap₂ (λ (a : Option (Changed Line)) (b : Option (Changed Page)).
      or_else (here_in r x (first ++ more) a) (later_in x b))
      p.here (none_without (after_line r x.line) first e more keeps p.later)

-- ---- a value with a line of its own

own_fact : (s : Document) (path : List Part) (n : ℕ) → Rules (mentions_in s)
    → last_line (mine path) start (lines s) ≡ Some n
    → (b : Body) × (fact_at path (mentions_in s) ≡ Some (body_fact b))
own_fact s path n rules own =
    let f : IsLast (mine path) start (lines s) n = last_found (mine path) start (lines s) n own in
    let r : Reading = reading_after_lines start f.pre in
    let o : IsOwnLine r.body path f.here.content = own_line path r f.here.content f.passes in
    let p : List Part = r.body ++ step 0 (Some o.name) in
    let before : List Mention = lines_mentions start f.pre in
    let after : List Mention = lines_mentions r f.post in
    let whole : mentions_in s ≡ before ++ (map (below r.body) (keyval_mentions o.name o.held) ++ after) =
    ap (lines_mentions start) f.was ∙ whole_mentions f.pre f.post f.here o.name o.held o.was in
    let b = beside_keyval f.pre f.post o.name o.held (subst Rules whole rules) in (
      o.held.body,
      subst (λ (q : List Part). fact_at q (mentions_in s) ≡ Some (body_fact o.held.body)) o.place
          (ap (fact_at p) whole
          ∙ tree_put-by r.body o.name o.held before after b.before b.after p (Some [])
          (ap (strip p) (sym (append-nil p)) ∙ strip-append p [])),
    )

fact_node : (path : List Part) (ms : List Mention) (f : Fact) → fact_at path ms ≡ Some f → is_node path ms ≡ true
fact_node path ms f e = node_kinds path ms ∙ by (kinds_at path ms) (is_root path) e
  where
    by : (kinds : List MentionKind) (b : Bool) → first_of (filter_map fact_of kinds) ≡ Some f
        → (b || list_any (λ (k : MentionKind). true) kinds) ≡ true
    by [] b e = absurd cc
    by (k ∷ kinds) true e = refl
    by (k ∷ kinds) false e = refl

-- so the path is that of a node
pub own_node : (s : Document) (path : List Part) (n : ℕ) → Rules (mentions_in s)
    → last_line (mine path) start (lines s) ≡ Some n → is_node path (mentions_in s) ≡ true
own_node s path n rules own =
    let (b, fact) = own_fact s path n rules own in fact_node path (mentions_in s) (body_fact b) fact

pub own_allowed : (profile : Profile) (limit : ℕ) (s : Document) (path : List Part) (n : ℕ) → Rules (mentions_in s)
    → last_line (mine path) start (lines s) ≡ Some n → is_root path ≡ false
    → refusal profile limit s (remove path) ≡ None
own_allowed profile limit s path n rules own root =
    let (b, fact) = own_fact s path n rules own in
    let node : is_node path (mentions_in s) ≡ true = fact_node path (mentions_in s) (body_fact b) fact in
    let valued : has_value path (mentions_in s) ≡ true =
    ap (λ (o : Option Fact). elim o [ None ↦ false | Some f ↦ is_value_fact f ]) fact ∙ value_fact-body b in
    by (is_node path (mentions_in s)) (is_root path) (is_one_piece path (mentions_in s)) node root (rw valued refl)
  where
    by : (a b c : Bool) → a ≡ true → b ≡ false → c ≡ true
        → first_that_holds ((not a, fault.NotFound) ∷ (b, fault.NotKey) ∷ (not c, fault.Scattered) ∷ []) ≡ None
    by true false true d e f = refl
    by false b c d e f = absurd cc
    by true true c d e f = absurd cc
    by true false false d e f = absurd cc
