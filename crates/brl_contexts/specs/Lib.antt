pub mod SameCarried
pub mod Met
pub mod Named
pub mod Forms
pub mod Changes
pub mod Contexts
