pub mod PieceLaws
pub mod LackLaws
pub mod TextLaws
