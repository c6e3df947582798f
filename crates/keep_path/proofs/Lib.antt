mod ByteLaws
mod PathLemmas
mod MovedLemmas
mod RenumberedLaws
mod PathTextLaws
mod PathReadLaws
mod FirstIndexLaws
mod IndexLaws
mod StopLaws
mod ReadLaws
pub mod Shared
