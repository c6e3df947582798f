-- Only the touched lines are scanned: each edit replaces whole lines.
pub mod SwapLaws
pub mod TouchLaws
pub mod FitLaws
pub mod TouchedCuts
pub mod TouchedRows
