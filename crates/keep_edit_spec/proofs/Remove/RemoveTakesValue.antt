-- A remove of a keyval's line takes the value, whatever is in it, and then the line.
--
-- Between the two documents is one that differs from the old one by the value of that line alone, in which there is
-- nothing (`replace_line`). It has another value at the path (`replaced_value`), and it obeys the rules, since what the
-- other lines say is beside the path, and the line itself says one thing (`bare_rules`). All statements but the line's
-- are the old document's, so the remove takes the line from it (`takes`).
--
-- Theorem: `remove_takes_value`.
use Rattle.std.proofs.Common.{◌≡◌, List, [], ◌∷◌, ◌++◌, map, refl, sym, ap, ap₂, subst, ◌∙◌, Some}
use Rattle.std.proofs.lemmas.List.{append-nil}
use Rattle.keep_syntax.specs.Tree.{Further, Value, Line, Ended, Document, keyval}
use Rattle.keep_path.specs.Path.{Part, key, strip}
use Rattle.keep_meaning.specs.Marks.{Mention, Reading, below, marks, start, value as kinds_value}
use Rattle.keep_meaning.specs.Meaning.{body_fact, further_value, key_value, keyed_mentions, keyval_mentions, line_of}
use Rattle.keep_meaning.specs.Meaning.{lines, lines_mentions}
use Rattle.keep_meaning.specs.Meaning.{mentions_in, reading_after_lines, step, valued_mentions}
use Rattle.keep_meaning.specs.OtherValues.{HasOtherValue}
use Rattle.keep_meaning.specs.Rules.{ObeysRules}
use Rattle.keep_edit_spec.specs.Edits.{edited_document, remove}
use Rattle.keep_edit_spec.specs.KeyvalLines.{HasLineAt, IsBareLine, IsValueLine, RemoveTakesValue, bare_value}
use Rattle.keep_edit_spec.specs.Lines.{Page, with_page}
use Rattle.keep_edit_spec.proofs.Common.InValue.{IsBeside, beside_keyval}
use Rattle.keep_edit_spec.proofs.Common.Marks.{rules_of_document}
use Rattle.keep_edit_spec.proofs.Common.Runs.{Rules, rules_replaced, strip-append}
use Rattle.keep_edit_spec.proofs.Common.SetDocument.{page_lines, whole_mentions}
use Rattle.keep_edit_spec.proofs.Remove.RemoveTakesLine.{bare_statements, takes}
use Rattle.keep_edit_spec.proofs.Values.BareValue.{bare_line}
use Rattle.keep_edit_spec.proofs.Values.LineValue.{replaced_value}

-- Another line in the place of the one after these.
abbrev replace_line : List Line → Line → List Ended → Line → Page
replace_line pre l [] last = record { ended = []; last = l }
replace_line [] l (e ∷ es) last = record { ended = record { line = l; newline = e.newline } ∷ es; last = last }
replace_line (x ∷ pre) l (e ∷ es) last =
    let more = replace_line pre l es last in record { ended = e ∷ more.ended; last = more.last }

line_replaced : (pre post : List Line) (old l : Line) (es : List Ended) (last : Line)
    → map line_of es ++ last ∷ [] ≡ pre ++ old ∷ post → page_lines (replace_line pre l es last) ≡ pre ++ l ∷ post
line_replaced [] post old l [] last e = let same : [] ≡ post = cc in ap (λ (ls : List Line). l ∷ ls) same
line_replaced (x ∷ []) post old l [] last e = let no : [] ≡ old ∷ post = cc in absurd cc
line_replaced (x ∷ y ∷ pre) post old l [] last e = let no : [] ≡ y ∷ pre ++ old ∷ post = cc in absurd cc
line_replaced [] post old l (z ∷ es) last e =
    let same : map line_of es ++ last ∷ [] ≡ post = cc in ap (λ (ls : List Line). l ∷ ls) same
line_replaced (x ∷ pre) post old l (z ∷ es) last e =
    let head : z.line ≡ x = cc in
    let tail : map line_of es ++ last ∷ [] ≡ pre ++ old ∷ post = cc in
    ap₂ (λ (y : Line) (ls : List Line). y ∷ ls) head (line_replaced pre post old l es last tail)

module _ (s : Document) (path : List Part) (before : List Line) (value : Value)
    (obeys : ObeysRules (marks (mentions_in s)))
    (h : IsValueLine s path before value) where
  abbrev line : Line
  line = record h.line { content = keyval h.name (bare_value value) }

  abbrev bare : Document
  bare = with_page s (replace_line before line s.ended s.last)

  bare_lines : lines bare ≡ before ++ line ∷ h.after
  bare_lines = line_replaced before h.after h.line line s.ended s.last h.here

  abbrev reading : Reading
  reading = reading_after_lines start before

  abbrev said_by : Value → List Mention
  said_by v = map (below reading.body) (keyval_mentions h.name v)

  rules : Rules (mentions_in s)
  rules = rules_of_document s obeys

  old_rules : Rules (lines_mentions start before ++ (said_by value ++ lines_mentions reading h.after))
  old_rules =
      subst Rules (ap (lines_mentions start) h.here ∙ whole_mentions before h.after h.line h.name value h.content) rules

  beside : IsBeside (reading.body ++ step 0 (Some h.name)) (lines_mentions start before) (said_by value)
      (lines_mentions reading h.after)
  beside = beside_keyval before h.after h.name value old_rules

  abbrev own : Mention
  own = record {
    path = reading.body ++ key (key_value h.name.key.first) ∷ [];
    kind = kinds_value (body_fact value.body);
  }

  said_bare : said_by (bare_value value) ≡ own ∷ []
  said_bare =
      let says : List Mention = valued_mentions (kinds_value (body_fact value.body)) [] in
      ap (λ (fs : List Further).
      map (below reading.body) (keyed_mentions (key_value h.name.key.first ∷ map further_value fs) says)) h.one

  own_path : own.path ≡ reading.body ++ step 0 (Some h.name)
  own_path =
      ap (λ (fs : List Further). reading.body ++ key (key_value h.name.key.first) ∷ map key (map further_value fs))
      (sym h.one)

  bare_rules : Rules (mentions_in bare)
  bare_rules =
      let p : List Part = reading.body ++ step 0 (Some h.name) in
      let left : List Mention = lines_mentions start before in
      let right : List Mention = lines_mentions reading h.after in
      let whole : mentions_in bare ≡ left ++ ((own ∷ []) ++ right) =
      ap (lines_mentions start) bare_lines ∙ whole_mentions before h.after line h.name (bare_value value) refl
      ∙ ap (λ (ms : List Mention). left ++ (ms ++ right)) said_bare in
      let under : strip p own.path ≡ Some [] = ap (strip p) (own_path ∙ sym (append-nil p)) ∙ strip-append p [] in
      subst Rules (sym whole)
      (rules_replaced p left (said_by value) (own ∷ []) right old_rules beside.before beside.after (([], under), tt)
      (tt, tt))

  value_taken : HasOtherValue s bare path (bare_value value)
  value_taken =
      subst (λ (p : List Part). HasOtherValue s bare p (bare_value value)) h.place
      (replaced_value s bare before h.after h.line line h.name value (bare_value value) rules h.here h.content
      bare_lines refl)

  line_taken : HasLineAt (edited_document s (remove path)) bare path (body_fact value.body) before
  line_taken =
      takes s path before value obeys h bare
      (bare_statements bare before h.after line h.name value bare_lines refl h.one)

  pub both_taken : (bare : Document) × HasOtherValue s bare path (bare_value value)
      × IsBareLine (edited_document s (remove path)) bare path (body_fact value.body) before
  both_taken = (
    bare,
    value_taken,
    bare_line (edited_document s (remove path)) bare path (body_fact value.body) before line_taken bare_rules,
  )

pub remove_takes_value : RemoveTakesValue
remove_takes_value profile limit s path before value editable h = both_taken s path before value editable.obeys h
