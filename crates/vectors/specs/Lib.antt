pub mod Literal
pub mod Zero
pub mod Vec3
pub mod Mat33
pub mod Table
