pub mod StartLoop
pub mod StartsLoop
pub mod MemberChecks
