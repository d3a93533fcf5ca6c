pub mod Lists
pub mod Reading
pub mod Left
pub mod Laws
