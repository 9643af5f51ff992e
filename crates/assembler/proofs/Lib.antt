pub mod Origins
pub mod Sorted
pub mod Checked
pub mod Theorems
pub mod Laws
