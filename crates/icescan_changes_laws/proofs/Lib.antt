mod LeavingOut
mod Requests
mod Schemas
mod SomeRows
mod Told
mod WholePlans
