-- No `[[..]]` may name a table that dotted keys make: some key part is said there from which a keyval continues, since
-- such a table is told by the last of these (`dots_said`), and no `[[..]]` may follow it (`dots_bar`).
--
-- Theorem: `dotted_is_barred`.
use Rattle.std.proofs.Common.{◌≡◌, ℕ, ◌<◌, Bool, true, false, cond, ◌||◌, List, [], ◌∷◌, get_or, length, map, refl}
use Rattle.std.proofs.Common.{sym, ap, ◌∙◌, Option, None, Some}
use Rattle.std.specs.Prelude.{fold, if◌then◌else◌}
use Rattle.std.specs.List.{filter_map, list_any}
use Rattle.std.proofs.lemmas.Option.{slice_get-get_or}
use Rattle.keep_types.specs.declared.node.NodeInfo.{NodeInfo}
use Rattle.keep_types.specs.declared.node.Origin.TheVariants as origin
use Rattle.keep_syntax.specs.Tree.{Document}
use Rattle.keep_path.specs.NodeInfos.{no_info}
use Rattle.keep_path.specs.Path.{Part}
use Rattle.keep_meaning.specs.Counts.{Count, Numbered, is_value, numbered_in}
use Rattle.keep_meaning.specs.LinesMore.{node_infos}
use Rattle.keep_meaning.specs.Marks.{MentionKind, begun, define, dotted, element, item, passed, past, role_of, through}
use Rattle.keep_meaning.specs.Marks.{value}
use Rattle.keep_meaning.specs.Meaning.{mentions_in}
use Rattle.keep_meaning.specs.Nodes.{infos_in, is_begun, is_define, is_dotted, is_element, is_through}
use Rattle.keep_meaning.specs.Nodes.{kinds_at, last_number, mention_kind_of, mentioned_origin, numbered_at}
use Rattle.keep_meaning.specs.Nodes.{statement_number, value_number}
use Rattle.keep_meaning.proofs.LineNodeLemmas.{fitting}
use Rattle.keep_meaning.proofs.Shared.{mentions-numbered_in}
use Rattle.keep_rules.specs.RoleStates.{mention_roles}
use Rattle.keep_rules.proofs.ElementLemmas.{info_stated, kinds_numbered}
use Rattle.keep_rules.proofs.LineNestedLaws.{may_follow}

-- ---- what is said of such a table

-- no number is found where nothing of that kind is said
none_last : (is : MentionKind → Bool) (number : Count → ℕ) (ns : List Numbered) (known : Option ℕ)
    → list_any is (map mention_kind_of ns) ≡ false
    → fold (λ known n. if is n.mention.kind then Some (number n.before) else known) known ns ≡ known
none_last is number [] known h = refl
none_last is number (n ∷ ns) known h = by (is n.mention.kind) h (λ k. none_last is number ns k)
  where
    by : (b : Bool) → (b || list_any is (map mention_kind_of ns)) ≡ false
        → ((k : Option ℕ) → list_any is (map mention_kind_of ns) ≡ false
        → fold (λ known n. if is n.mention.kind then Some (number n.before) else known) k ns ≡ k)
        → fold (λ known n. if is n.mention.kind then Some (number n.before) else known)
        (cond b (Some (number n.before)) known) ns
        ≡ known
    by true e more = absurd cc
    by false e more = more known e

no_dots_fit : (v t e h s : Option ℕ) (w : ℕ) → fitting v t e h None s ≡ origin.Dotted w → ⊥
no_dots_fit (Some v) t e h s w is = cc
no_dots_fit None (Some t) e h s w is = cc
no_dots_fit None None (Some e) h s w is = cc
no_dots_fit None None None (Some h) s w is = cc
no_dots_fit None None None None (Some s) w is = cc
no_dots_fit None None None None None w is = cc

dots_said : (ns : List Numbered) (w : ℕ) → mentioned_origin ns ≡ origin.Dotted w
    → list_any is_dotted (map mention_kind_of ns) ≡ true
dots_said ns w from = by (list_any is_dotted (map mention_kind_of ns)) refl
  where
    by : (b : Bool) → list_any is_dotted (map mention_kind_of ns) ≡ b → b ≡ true
    by true e = refl
    by false e = absurd (
        no_dots_fit (last_number is_value value_number ns) (last_number is_element statement_number ns)
        (last_number is_begun statement_number ns) (last_number is_define statement_number ns)
        (last_number is_through statement_number ns) w
        (ap (λ (o : Option ℕ).
        fitting (last_number is_value value_number ns) (last_number is_element statement_number ns)
        (last_number is_begun statement_number ns) (last_number is_define statement_number ns) o
        (last_number is_through statement_number ns)) (sym (none_last is_dotted value_number ns None e)) ∙ from)
        )

-- ---- what may follow

dots_bar : (ks : List MentionKind) → list_any is_dotted ks ≡ true → may_follow (filter_map role_of ks) ≡ false
dots_bar [] h = absurd cc
dots_bar (through ∷ ks) h = refl
dots_bar (past ∷ ks) h = dots_bar ks h
dots_bar (define ∷ ks) h = refl
dots_bar (element ∷ ks) h = dots_bar ks h
dots_bar (dotted ∷ ks) h = refl
dots_bar (value f ∷ ks) h = refl
dots_bar (begun ∷ ks) h = dots_bar ks h
dots_bar (passed ∷ ks) h = dots_bar ks h
dots_bar (item f ∷ ks) h = dots_bar ks h

pub dotted_is_barred : (d : Document) (id w : ℕ) (path : List Part) → id < length (node_infos d).paths
    → get_or (node_infos d).paths id [] ≡ path → id < length (infos_in d)
    → (get_or (infos_in d) id no_info).origin ≡ origin.Dotted w
    → may_follow (mention_roles path (mentions_in d)) ≡ false
dotted_is_barred d id w path low here within from =
    let i : NodeInfo = get_or (infos_in d) id no_info in
    let came : mentioned_origin (numbered_at path (numbered_in d)) ≡ origin.Dotted w =
    ap (λ (n : NodeInfo). n.origin)
    (sym (info_stated d (node_infos d) refl id path i low here (slice_get-get_or (infos_in d) id no_info within)))
    ∙ from in
    let kinds : map mention_kind_of (numbered_at path (numbered_in d)) ≡ kinds_at path (mentions_in d) =
    kinds_numbered path (numbered_in d) ∙ ap (kinds_at path) (mentions-numbered_in d) in
    dots_bar (kinds_at path (mentions_in d))
    (ap (list_any is_dotted) (sym kinds) ∙ dots_said (numbered_at path (numbered_in d)) w came)
