use Rattle.std.proofs.Common.{◌≡◌, ◌<◌, ◌-◌, length, slice_index_or, ◌∙◌, ap, sym, refl, Option}
use Rattle.keep_types.specs.declared.role.Role.{Role}
use Rattle.keep_index_store.specs.Trie.{children_of, path_at}
use Rattle.keep_rules.specs.Represents.{IsLastElement}
use Rattle.keep_rules.specs.Tables.{is_tables}
use Rattle.keep_rules.proofs.OutcomeLemmas.{two_some, if_none}
use Rattle.keep_rules.proofs.PassLemmas.{element_table, none_empty, none_plain}
use Rattle.keep_rules.proofs.TablesLemmas.{tables_listed}
use Rattle.keep_rules.proofs.definitions.Definitions.last_element.Goals as goal

pub returns-then-not-names_tables : goal.returns-then-not-names_tables
returns-then-not-names_tables c = record {
  some = tt;
  none = none_plain c.args.self.now.tree.trie _ c.args.id c.requires refl
      (ap (λ (r : Option Role). is_tables r) (sym c.role.ensures) ∙ sym c.names_tables.ensures
      ∙ c.if-not-names_tables.true);
}

pub returns : goal.returns
returns c =
    let tables =
    ap (λ (r : Option Role). is_tables r) (sym c.role.ensures) ∙ sym c.names_tables.ensures
    ∙ c.if-not-names_tables.false in
    let nodes = c.args.self.now.tree.trie in
    let id = c.args.id in
    record {
      some = two_some c.last_item.result _ _ (IsLastElement nodes (path_at nodes id) id)
          (λ last (was : (0 < length (children_of nodes id))
          × (last ≡ slice_index_or (children_of nodes id) (length (children_of nodes id) - 1) 0)) within. record {
            nested = c.requires;
            here = refl;
            tables = tables;
            some = was.0;
            last = was.1;
            table = element_table nodes c.args.self.now.shaped id last c.requires tables was.0 was.1 within;
          }) c.last_item.ensures.some c.last_item.ensures.within;
      none = if_none _ _ _ (λ none.
          none_empty nodes _ id c.requires refl
          (none (tables_listed nodes c.args.self.now.shaped id c.requires tables))) c.last_item.ensures.none;
    }
