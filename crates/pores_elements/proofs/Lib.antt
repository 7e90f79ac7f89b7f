pub mod BeforeLaws
pub mod ElementLaws
