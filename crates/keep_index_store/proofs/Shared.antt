-- What the crates above build on, in one place.
pub use Rattle.keep_index_store.proofs.TrieLemmas.{child_at, closed, length-paths_of, no_children_past_end, one_node}
pub use Rattle.keep_index_store.proofs.TrieLemmas.{path_at-link, path_at-root, push_same}
pub use Rattle.keep_index_store.proofs.NewNodeLemmas.{children_here, children_last, children_other, first, holds_below}
pub use Rattle.keep_index_store.proofs.NewNodeLemmas.{holds_last, longer, many, path_below, path_last, state_below}
pub use Rattle.keep_index_store.proofs.NewNodeLemmas.{state_last}
pub use Rattle.keep_index_store.proofs.DotsLemmas.{paths_more, paths_up}
pub use Rattle.keep_index_store.proofs.DotsLeftLemmas.{up_all}
pub use Rattle.keep_index_store.proofs.DotsLessLemmas.{next_givers, parent_low}
pub use Rattle.keep_index_store.proofs.PartsLemmas.{parts_back}
pub use Rattle.keep_index_store.proofs.TakerLemmas.{moved_taker, node_taker, table_taker}
