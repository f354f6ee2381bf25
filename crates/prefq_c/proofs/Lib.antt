pub mod EndLaws
pub mod NumbersLaws
pub mod RowsLaws
pub mod EachLaws
