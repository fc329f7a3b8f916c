pub mod RangeLaws
