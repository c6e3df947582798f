-- Which lines lead through a path by their own keys, after a rename made its change elsewhere: those that did, each
-- from the body that it did.
--
-- Each line is read as before for the path, and the line with the key leads through it if it did (RenamedReads). If a
-- line's body is no prefix of the path, the line does not lead through it (`none_led`).
--
-- Theorem: `renamed_led`.
use Rattle.std.proofs.Common.{◌≡◌, ℕ, true, false, List, [], ◌∷◌, ◌++◌, map, refl, sym, ap, subst, ◌∙◌, None, inl, inr}
use Rattle.std.specs.List.{list_any}
use Rattle.keep_syntax.specs.Tree.{Content, Document, Ended, Line, blank, element, header, keyval}
use Rattle.keep_path.specs.Path.{Part, strip}
use Rattle.keep_meaning.specs.Marks.{Reading, below, start}
use Rattle.keep_meaning.specs.Meaning.{after_line, keyed_mentions, keys_of, line_of, lines}
use Rattle.keep_meaning.specs.Nodes.{is_dotted}
use Rattle.keep_edit_spec.specs.Changed.{Changed}
use Rattle.keep_edit_spec.specs.Edits.{key_part}
use Rattle.keep_edit_spec.specs.Lines.{Page, in_line, leads_dotted, plain_line}
use Rattle.keep_edit_spec.specs.Values.{renaming}
use Rattle.keep_edit_spec.proofs.Common.Runs.{kinds_at-under}
use Rattle.keep_edit_spec.proofs.Common.SetDocument.{page_lines, under_below}
use Rattle.keep_edit_spec.proofs.Common.SetLaw.{EachTo}
use Rattle.keep_edit_spec.proofs.Lists.LedAlike.{AreLedAlike, IsLedAlike}
use Rattle.keep_edit_spec.proofs.Lists.LinesReplaced.{value_line}
use Rattle.keep_edit_spec.proofs.Lists.RenamedReads.{Agrees, AreRead, IsLineRead, IsRenamedPage, PageRead, apart}
use Rattle.keep_edit_spec.proofs.Lists.RenamedReads.{by_key, in_braces, same}

-- ---- a line that is read as before for the path

none_led : (a : List Part) (r : Reading) (c : Content) → strip r.body a ≡ None
    → leads_dotted a r (plain_line c) ≡ false
none_led a r blank h = refl
none_led a r (header x k y) h = refl
none_led a r (element x k y) h = refl
none_led a r (keyval name v) h =
    ap (list_any is_dotted)
    (kinds_at-under r.body a (map (below r.body) (keyed_mentions (keys_of name.key) []))
    (under_below r.body (keyed_mentions (keys_of name.key) [])) h)

leads_same : (a : List Part) (r r' : Reading) (l : Line) → Agrees a r.body r'.body
    → leads_dotted a r' l ≡ leads_dotted a r l
leads_same a r r' l (same e) =
    ap (λ (q : List Part). leads_dotted a (record { tables = []; body = q }) l) e
leads_same a r r' l (apart h h') = none_led a r' l.content h' ∙ sym (none_led a r l.content h)

body_same : (a : List Part) (r r' : Reading) (l : Line) → Agrees a r.body r'.body → leads_dotted a r l ≡ true
    → r'.body ≡ r.body
body_same a r r' l (same e) leads = e
body_same a r r' l (apart h h') leads =
    let no : leads_dotted a r l ≡ false = none_led a r l.content h in absurd cc

alike_by : (a : List Part) (r r' : Reading) (l l' : Line) → Agrees a r.body r'.body
    → leads_dotted a r' l' ≡ leads_dotted a r l → IsLedAlike a r r' l l'
alike_by a r r' l l' agrees leads = record { leads = leads; body = body_same a r r' l agrees }

alike_same : (a : List Part) (r r' : Reading) (l : Line) → Agrees a r.body r'.body → IsLedAlike a r r' l l
alike_same a r r' l agrees = alike_by a r r' l l agrees (leads_same a r r' l agrees)

alike_lines : (a : List Part) (r r' : Reading) (ls : List Line) → AreRead a r r' ls → AreLedAlike a r r' ls ls
alike_lines a r r' [] h = tt
alike_lines a r r' (l ∷ ls) h =
    (alike_same a r r' l h.0, alike_lines a (after_line r l) (after_line r' l) ls h.1)

module _ (t : List ℕ) (path a : List Part) where
  -- ---- the line with the key

  value_alike : (r : Reading) (l : Line) → EachTo (IsLedAlike a r r l) (in_line (renaming (key_part t)) path r l)
  value_alike r l =
      value_line (renaming (key_part t)) path r l (IsLedAlike a r r l)
      (λ name old new is. record {
        leads = sym (ap (λ (c : Content). leads_dotted a r (plain_line c)) is);
        body = λ e. refl;
      })

  line_alike : (r r' : Reading) (l : Line) (x : Changed Line) → IsLineRead t path a r r' l x
      → IsLedAlike a r r' l x.to
  line_alike r r' l x (by_key h) = alike_by a r r' l x.to h.body h.leads
  line_alike r r' l x (in_braces e is) =
      subst (λ (q : Reading). IsLedAlike a r q l x.to) (sym e)
      (subst (EachTo (IsLedAlike a r r l)) is (value_alike r l))

  -- ---- all lines

  page_alike : (r r' : Reading) (es : List Ended) (last : Line) (c : Changed Page) → PageRead t path a r r' es last c
      → AreLedAlike a r r' (map line_of es ++ last ∷ []) (page_lines c.to)
  page_alike r r' [] last c h =
      subst (λ (z : Changed Page). AreLedAlike a r r' (last ∷ []) (page_lines z.to)) (sym h.is)
      (line_alike r r' last h.change h.read, tt)
  page_alike r r' (e ∷ es) last c (inl h) =
      let ls : List Line = map line_of es ++ last ∷ [] in
      subst (λ (z : Changed Page). AreLedAlike a r r' (e.line ∷ ls) (page_lines z.to)) (sym h.is) (
        line_alike r r' e.line h.change h.read,
        alike_lines a (after_line r e.line) (after_line r' h.change.to) ls h.more,
      )
  page_alike r r' (e ∷ es) last c (inr (y, is, agrees, h)) =
      let ls : List Line = map line_of es ++ last ∷ [] in
      subst (λ (z : Changed Page). AreLedAlike a r r' (e.line ∷ ls) (page_lines z.to)) (sym is)
      (alike_same a r r' e.line agrees, page_alike (after_line r e.line) (after_line r' e.line) es last y h)

  pub renamed_led : (s : Document) (x : Changed Document) → IsRenamedPage t path a s x
      → AreLedAlike a start start (lines s) (lines x.to)
  renamed_led s x h =
      subst (λ (z : Changed Document). AreLedAlike a start start (lines s) (lines z.to)) (sym h.is)
      (page_alike start start s.ended s.last h.page h.read)
