-- What the clauses of the top call rest on.
pub mod FreshRows
pub mod Transactions
