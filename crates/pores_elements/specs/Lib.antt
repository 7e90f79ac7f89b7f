pub mod Before
pub mod Element
