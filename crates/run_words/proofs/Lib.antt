pub mod PoolLaws
pub mod WordLaws
pub mod FormLaws
