mod Files
mod Order
